-- What is so of the words of a call is so of the calls that may prepare their types first.
use Rattle.std.proofs.Common.{List, [], Result, Ok, Err}
use Rattle.iceoryx2_access.specs.Letter.{Letter}
use Rattle.iceoryx2_access.specs.Registered.{Registered}
use Rattle.iceoryx2_rounds.specs.Prepared.{IsPrepared, unprepared, prepared}

module _ {E : Type 0} {no_memory : E} {IsWord : List Letter → Result Registered E → Type 0} where
  -- whatever it answers, where it is also so of an answer out of memory without an access
  pub each_call : (P : List Letter → Result Registered E → Type 0) → P [] (Err no_memory) → ((word : List Letter) (answer : Result Registered E) → IsWord word answer → P word answer) → {word : List Letter} {answer : Result Registered E} → IsPrepared no_memory IsWord word answer → P word answer
  each_call P without_access of_word unprepared = without_access
  each_call P without_access of_word (prepared {word = word} {answer = answer} is) = of_word word answer is

  -- where it is refused
  pub refused_call : (P : List Letter → Type 0) → P [] → ((word : List Letter) (error : E) → IsWord word (Err error) → P word) → {word : List Letter} {error : E} → IsPrepared no_memory IsWord word (Err error) → P word
  refused_call P without_access of_word unprepared = without_access
  refused_call P without_access of_word {error = error} (prepared {word = word} is) = of_word word error is

  -- where it is granted
  pub granted_call : {word : List Letter} {r : Registered} → IsPrepared no_memory IsWord word (Ok r) → IsWord word (Ok r)
  granted_call (prepared is) = is
