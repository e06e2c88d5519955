-- The state of the rules that a tie stores. Assumes nothing.
use Rattle.tie_rules.specs.State.{Tie as State, next}
use Rattle.gateway.specs.declared.state.Gateway.TheVariants.{Out}
use Rattle.tie.specs.declared.state.Tie.{Tie}

abbrev pub tie_of : {L R O : Type 0} → Tie L R O → State L R O
tie_of t = record {
  left = t.left.island;
  right = t.right.island;
  outer = t.outer;
  left_gate = t.left.gate;
  right_gate = t.right.gate;
  age = t.age;
}

-- Three managers that are to be tied, before they are parked.
abbrev pub untied : {L R O : Type 0} → L → R → O → State L R O
untied left right outer = record { left = left; right = right; outer = outer; left_gate = Out; right_gate = Out; age = 0 }

-- The state one call later, all else being as it is.
abbrev pub older : {L R O : Type 0} → State L R O → State L R O
older t = next t t.left t.right t.outer t.left_gate t.right_gate
