-- One node after the other gives back what it has, in a session or in a world of its own.
use Rattle.std.proofs.Common.{◌≡◌, ℕ, List, [], ◌∷◌, ◌++◌, Some, map, refl, sym, ap, ◌∙◌}
use Rattle.iceoryx2_access.specs.Run.{done}
use Rattle.iceoryx2_access.proofs.Run.{one, both}
use Rattle.iceoryx2_journal.specs.declared.cleaning.Cleaned.{Cleaned}
use Rattle.iceoryx2_session.specs.Sessions.{SessionOver}
use Rattle.iceoryx2_world.specs.World.{World}
use Rattle.wulameron_place.specs.declared.clean.Found.{Found}
use Rattle.wulameron_place.specs.Rehearsal.{Rehearses}
use Rattle.wulameron_serve.specs.declared.cleaning.Given.{Given}
use Rattle.wulameron_serve.specs.declared.cleaning.Outcome.{Outcome}
use Rattle.wulameron_serve.specs.Cleaning.{CleansAll, CleansOne, RehearsesSum, given_from, nothing_given, outcome_from, outcome_of_none, outcome_with, with_given}

map_more : {X : Type 0} (xs : List (ℕ × X)) (x : ℕ × X) → map (λ y. y.0) (xs ++ x ∷ []) ≡ map (λ y. y.0) xs ++ x.0 ∷ []
map_more [] x = refl
map_more (y ∷ xs) x = ap (λ l. y.0 ∷ l) (map_more xs x)

outcome_more : (o : Outcome) (xs : List (ℕ × Found)) (x : ℕ × Found) → outcome_from o (xs ++ x ∷ []) ≡ outcome_with (outcome_from o xs) x.1
outcome_more o [] x = refl
outcome_more o (y ∷ xs) x = outcome_more (outcome_with o y.1) xs x

given_more : (g : Given) (xs : List (ℕ × Cleaned)) (x : ℕ × Cleaned) → given_from g (xs ++ x ∷ []) ≡ with_given (given_from g xs) x.1
given_more g [] x = refl
given_more g (y ∷ xs) x = given_more (with_given g y.1) xs x

module _ {S : Type 0} (shows : S → S → Type 0) (world : S → World) where
  pub cleans_none : (s : SessionOver S) {ns : List ℕ} {o : Outcome} → ns ≡ [] → o ≡ outcome_of_none → CleansAll shows world ns s o s
  cleans_none s no_node nothing = record { found = []; run = done; of_nodes = sym no_node; is = nothing }

  pub cleans_one_more : {a b c : SessionOver S} (node : ℕ) (x : Found) {ns ms : List ℕ} {o p : Outcome} → CleansAll shows world ns a o b → CleansOne shows world b (node, x) c
      → ms ≡ ns ++ node ∷ [] → p ≡ outcome_with o x → CleansAll shows world ms a p c
  cleans_one_more node x so_far cleans nodes is = record {
    found = so_far.found ++ (node, x) ∷ [];
    run = both so_far.run (one cleans);
    of_nodes = map_more so_far.found (node, x) ∙ ap (λ l. l ++ node ∷ []) so_far.of_nodes ∙ sym nodes;
    is = is ∙ ap (λ (q : Outcome). outcome_with q x) so_far.is ∙ sym (outcome_more outcome_of_none so_far.found (node, x));
  }

pub rehearses_none : {w : World} {ns : List ℕ} {g : Given} → ns ≡ [] → g ≡ nothing_given → RehearsesSum ns w g w
rehearses_none no_node nothing = record { given = []; run = done; of_nodes = sym no_node; is = nothing }

pub rehearses_one_more : {w u v : World} (i : ℕ) (c : Cleaned) {ns ms : List ℕ} {g h : Given} → RehearsesSum ns w g u → Rehearses i (Some c) u v
    → ms ≡ ns ++ i ∷ [] → h ≡ with_given g c → RehearsesSum ms w h v
rehearses_one_more i c so_far gives nodes is = record {
  given = so_far.given ++ (i, c) ∷ [];
  run = both so_far.run (one gives);
  of_nodes = map_more so_far.given (i, c) ∙ ap (λ l. l ++ i ∷ []) so_far.of_nodes ∙ sym nodes;
  is = is ∙ ap (λ (q : Given). with_given q c) so_far.is ∙ sym (given_more nothing_given so_far.given (i, c));
}
