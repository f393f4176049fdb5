-- How nodes stand, one node more.
use Rattle.std.proofs.Common.{◌≡◌, ℕ, ◌+◌, ◌<◌, ◌≤◌, List, [], ◌∷◌, ◌++◌, length, take, get_or, sym, subst, add-one}
use Rattle.std.proofs.Math.Seq.{take-suc}
use Rattle.std.proofs.lemmas.List.{take_all}
use Rattle.iceoryx2_monitoring.specs.declared.state.NodeStatus.{NodeStatus}
use Rattle.iceoryx2_world.specs.World.{World}
use Rattle.wulameron_view.specs.States.{AreStandings, IsStandingIn, none, one}
use Rattle.wulameron_view.specs.declared.states.NodeStanding.{NodeStanding}

module _ (w : World) where
  with_one : {states : List NodeStatus} {found : List NodeStanding} (s : NodeStatus) (n : NodeStanding) → IsStandingIn w s n → AreStandings w states found
      → AreStandings w (states ++ s ∷ []) (found ++ n ∷ [])
  with_one s n is none = one is none
  with_one s n is (one first rest) = one first (with_one s n is rest)

  pub one_more : (states : List NodeStatus) (i : ℕ) (d : NodeStatus) → i < length states → (found : List NodeStanding) → AreStandings w (take i states) found
      → (n : NodeStanding) → IsStandingIn w (get_or states i d) n → AreStandings w (take (i + 1) states) (found ++ n ∷ [])
  one_more states i d within found so_far n stands =
      let next : take (i + 1) states ≡ take i states ++ get_or states i d ∷ [] = rw (add-one i) (take-suc states i d within) in
      subst (λ xs. AreStandings w xs (found ++ n ∷ [])) (sym next) (with_one (get_or states i d) n stands so_far)

  pub of_all : (states : List NodeStatus) (i : ℕ) (found : List NodeStanding) → length states ≤ i → AreStandings w (take i states) found → AreStandings w states found
  of_all states i found ends are = subst (λ xs. AreStandings w xs found) (take_all i states ends) are
