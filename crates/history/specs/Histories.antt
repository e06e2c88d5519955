-- Histories: what any calls, in any order and with any arguments, come to. Assumes nothing.
use Rattle.std.specs.Prelude.{List}
use Rattle.manager.specs.Kinds.{Kind}
use Rattle.history.specs.Calls.{Call, Done, done, ◌and◌, Does}
use Rattle.history.specs.Records.{Records, Well}
use Rattle.history.specs.declared.Grant.{Grant}

module _ {S : Type 0} (kind : Kind S) where
  -- From one state of a broker to another by any number of calls, with the count of what they carried out.
  pub data History (a : Records S) : Done → Records S → Type 0 where
    begin : History a (done 0 0 0) a
    then : {d e : Done} {b c : Records S} {gs : List Grant} (call : Call) → History a d b → Does kind b call e gs c → History a (d and e) c

  -- One call on a broker is one step of a history, and leaves the broker well.
  pub record Performed (b : Records S) (call : Call) (grants : List Grant) (c : Records S) : Type 0 where
    pub carried : Done
    pub does : Does kind b call carried grants c
    pub well : Well kind c

  -- A routine that makes calls on a broker goes on with its history.
  pub record Continues (b c : Records S) : Type 0 where
    pub carried : Done
    pub history : History b carried c
    pub well : Well kind c

  abbrev pub GoesOn : Records S → Records S → Type 0
  GoesOn b c = Well kind b → Continues b c
