-- One node after the other gives back what it has, in a world of its own.
use Rattle.std.proofs.Common.{◌≡◌, ℕ, List, [], ◌∷◌, ◌++◌, Some, map, refl, sym, ap, ◌∙◌}
use Rattle.std.specs.List.{flat_map}
use Rattle.std.proofs.lemmas.List.{append-nil, append_assoc}
use Rattle.iceoryx2_access.specs.Run.{done}
use Rattle.iceoryx2_access.proofs.Run.{one, both}
use Rattle.iceoryx2_world.specs.World.{World}
use Rattle.iceoryx2_journal.specs.declared.cleaning.Cleaned.{Cleaned}
use Rattle.wulameron_place.specs.Rehearsal.{Rehearses}
use Rattle.wulameron_place.specs.Texts.{RehearsesAll, rehearsed_text}

pub none_given : {w : World} {ns text : List ℕ} → ns ≡ [] → text ≡ [] → RehearsesAll ns w text w
none_given no_node no_text = record { given = []; run = done; of_nodes = sym no_node; is = no_text }

map_more : (xs : List (ℕ × Cleaned)) (x : ℕ × Cleaned) → map (λ y. y.0) (xs ++ x ∷ []) ≡ map (λ y. y.0) xs ++ x.0 ∷ []
map_more [] x = refl
map_more (y ∷ xs) x = ap (λ l. y.0 ∷ l) (map_more xs x)

flat_more : (xs : List (ℕ × Cleaned)) (x : ℕ × Cleaned) → flat_map rehearsed_text (xs ++ x ∷ []) ≡ flat_map rehearsed_text xs ++ rehearsed_text x
flat_more [] x = append-nil (rehearsed_text x)
flat_more (y ∷ xs) x = ap (λ l. rehearsed_text y ++ l) (flat_more xs x) ∙ sym (append_assoc (rehearsed_text y) (flat_map rehearsed_text xs) (rehearsed_text x))

pub rehearses_one_more : {w u v : World} {i : ℕ} {c : Cleaned} {ns ms text longer : List ℕ} → RehearsesAll ns w text u → Rehearses i (Some c) u v
    → ms ≡ ns ++ i ∷ [] → longer ≡ text ++ rehearsed_text (i, c) → RehearsesAll ms w longer v
rehearses_one_more {i} {c} {text} so_far gives nodes is = record {
  given = so_far.given ++ (i, c) ∷ [];
  run = both so_far.run (one gives);
  of_nodes = map_more so_far.given (i, c) ∙ ap (λ l. l ++ i ∷ []) so_far.of_nodes ∙ sym nodes;
  is = is ∙ ap (λ l. l ++ rehearsed_text (i, c)) so_far.is ∙ sym (flat_more so_far.given (i, c));
}
