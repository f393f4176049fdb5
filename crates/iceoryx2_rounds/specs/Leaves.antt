-- What the rounds of an open or create make and give back.
use Rattle.std.specs.Prelude.{◌≡◌, ◌⊎◌, ℕ, List, [], ◌++◌}
use Rattle.iceoryx2_description.specs.declared.description.ServiceHash.{ServiceHash}
use Rattle.iceoryx2_access.specs.Letter.{Letter}
use Rattle.iceoryx2_rounds.specs.Fronts.{GivesAllBack, KeepsAll, KeepsLastTag}

module _ (node : ℕ) (hash : ServiceHash) where
  -- Words one after the other, each of which gives back what it makes: a look of a round, which makes nothing, a
  -- create, or a round of an open.
  pub data GivesBackByRounds : List Letter → Type 0 where
    no_round : GivesBackByRounds []
    one_more : {u v : List Letter} → GivesBackByRounds u → GivesAllBack node hash v → GivesBackByRounds (u ++ v)

  -- Such words, and then a granted create or open of the service of this number.
  pub record KeepsInTheEnd (word : List Letter) (number : ℕ) : Type 0 where
    pub before : List Letter
    pub in_the_end : List Letter
    pub is_word : word ≡ before ++ in_the_end
    pub gives_back : GivesBackByRounds before
    pub keeps : KeepsAll node hash in_the_end number ⊎ KeepsLastTag node hash in_the_end number
