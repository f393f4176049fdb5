-- Lines in which `-` stands for the program's own node.
use Rattle.std.specs.Prelude.{◌≡◌, ◌≢◌, ◌⊎◌, ℕ, List, [], ◌∷◌, ◌++◌, Result, Ok, Err, codes, decimal, drop}
use Rattle.std.specs.Prelude.{length}
use Rattle.std.specs.List.{All}
use Rattle.std.specs.declared.alloc.Global.{Global}
use Rattle.std.specs.declared.vec.Vec.{Vec}
use Rattle.negotiate_lines.specs.Terms.{terms_of}
use Rattle.negotiate_serve.specs.declared.ending.Ending.{Ending}
use Rattle.negotiate_serve.specs.declared.ending.Ending.TheVariants as ending
use Rattle.negotiate_serve.specs.Transcripts.{AnsweringLines}
use Rattle.wulameron_place.specs.declared.halt.Halt.{Halt}

-- A term ends before this: it is nothing, or begins with a space.
abbrev pub EndsTerm : (behind : List ℕ) → Type 0
EndsTerm behind = (behind ≡ []) ⊎ ((others : List ℕ) × (behind ≡ 32 ∷ others))

-- The third term of a line is `-`: before it stand two terms, the last of them apart.
pub record IsOwnAt (line before behind : List ℕ) : Type 0 where
  pub are : line ≡ before ++ (codes "-" ++ behind)
  pub two : length (terms_of before) ≡ 2
  pub apart : (front : List ℕ) × (before ≡ front ++ codes " ")
  pub ends : EndsTerm behind

-- A line with the number of a node in the place of such a `-`. Any other line is as it is.
pub data IsNamed (node : ℕ) (line : List ℕ) : (named : List ℕ) → Type 0 where
  own : (before behind : List ℕ) → IsOwnAt line before behind
      → IsNamed node line (before ++ (decimal node ++ behind))
  other : ((before behind : List ℕ) → IsOwnAt line before behind → ⊥) → IsNamed node line line

-- Each line is answered as the line is in which the node is named.
abbrev pub AnswersNamed : {M : Type 0} → (node : M → ℕ) → AnsweringLines M → AnsweringLines M
AnswersNamed node Answers m line text n = (named : List ℕ) × IsNamed (node m) line named × Answers m named text n

-- It may also be kept as it is.
abbrev pub IsNamedOrKept : (node : ℕ) → (line told : List ℕ) → Type 0
IsNamedOrKept node line told = (told ≡ line) ⊎ IsNamed node line told

-- It ends so, and what is told is the line by which it ends, in which the node is named or that is kept.
abbrev pub TellsNamed : (node : ℕ) → (ended told : Result Ending Halt) → Type 0
TellsNamed node (Ok (ending.NotACommand k line)) told =
    (named : Vec ℕ Global) × IsNamedOrKept node line.items named.items × (told ≡ Ok (ending.NotACommand k named))
TellsNamed node (Ok ending.InputEnded) told = told ≡ Ok ending.InputEnded
TellsNamed node (Err h) told = told ≡ Err h

-- ---- where the third term is looked for

-- What stands before the rest is spaces, and the rest begins with none.
pub record IsBehindSpaces (text rest : List ℕ) : Type 0 where
  pub spaces : List ℕ
  pub are : text ≡ spaces ++ rest
  pub all : All (λ byte. byte ≡ 32) spaces
  pub first : (others : List ℕ) → rest ≢ 32 ∷ others

-- What stands before the rest has no space, and ends there.
pub record IsBehindWord (text rest : List ℕ) : Type 0 where
  pub word : List ℕ
  pub are : text ≡ word ++ rest
  pub all : All (λ byte. byte ≢ 32) word
  pub ends : EndsTerm rest

-- The rest has the terms from the third on, and begins with that, if it is there.
pub record IsFromThird (line rest : List ℕ) : Type 0 where
  pub before : List ℕ
  pub are : line ≡ before ++ rest
  pub terms : terms_of rest ≡ drop 2 (terms_of line)
  pub first : (others : List ℕ) → rest ≢ 32 ∷ others
  pub apart : (rest ≡ []) ⊎ ((front : List ℕ) × (before ≡ front ++ codes " "))
