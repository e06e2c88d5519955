-- The words in which a status and a refusal are shown. Assumes nothing.
use Rattle.std.specs.Prelude.{ℕ, List, codes}
use Rattle.manager.specs.declared.refusal.Refusal.{Refusal}
use Rattle.manager.specs.declared.refusal.Refusal.TheVariants.{NoSite, Worn, NotIdle, NotHolding, NoThing, RollFull, ShortWaitList, LimitReached}
use Rattle.manager.specs.declared.status.Status.{Status}
use Rattle.manager.specs.declared.status.Status.TheVariants.{Idle, Waiting, Holding}

abbrev pub status_in_words : Status → List ℕ
status_in_words Idle = codes "idle"
status_in_words Waiting = codes "waiting"
status_in_words Holding = codes "holding"

-- What was refused, or why.
abbrev pub refusal_in_words : Refusal → List ℕ
refusal_in_words NoSite = codes "there is no site of that number"
refusal_in_words Worn = codes "the manager is worn out"
refusal_in_words NotIdle = codes "the site is not idle"
refusal_in_words NotHolding = codes "the site does not hold"
refusal_in_words NoThing = codes "no thing of that number is under way"
refusal_in_words RollFull = codes "the roll has no free place"
refusal_in_words ShortWaitList = codes "the wait list has fewer places than there are sites"
refusal_in_words LimitReached = codes "the drain is at its limit with something under way"
