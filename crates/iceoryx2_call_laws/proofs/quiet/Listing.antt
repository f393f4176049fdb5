-- The table lists what the machine lists.
use Rattle.std.proofs.Common.{◌≡◌, true, false, cond, ◌&&◌, List, [], ◌∷◌, Option, Some, None, refl, sym, ap, subst, ◌∙◌}
use Rattle.std.specs.Prelude.{T, map}
use Rattle.std.specs.Option.{option_map}
use Rattle.std.specs.FinMap as finite
use Rattle.std.specs.FinMap.{entries_sorted, get-entries}
use Rattle.std.specs.FinMap.Entries.{find, is_sorted, below_all, same_entries}
use Rattle.std.specs.Ordering.{is_lt, eq_by_cmp}
use Rattle.iceoryx2_description.specs.declared.description.ServiceHash.{ServiceHash}
use Rattle.iceoryx2_world.specs.declared.listing.Entry.{Entry}
use Rattle.iceoryx2_world.specs.Orders.{hash_cmp, hash_total, hash_exact}
use Rattle.iceoryx2_world.specs.World.{World, row_of, segment_of}
use Rattle.iceoryx2_world.specs.Listing.{entry_at, by_hash}
use Rattle.iceoryx2_world.proofs.agreement.Whole.{same_hash}
use Rattle.iceoryx2_call_laws.specs.Quiet.{QuietService, ShowsService, service_at}
use Rattle.iceoryx2_call_laws.specs.QuietLaws.{ListsItsServices}
use Rattle.iceoryx2_call_laws.specs.QuietLists.{listed_service, listing}

abbrev entries_of : List (ServiceHash × QuietService) → List Entry
entries_of es = map (λ (e : ServiceHash × QuietService). listed_service e.0 e.1) es

below_entries : (h : ServiceHash) (es : List (ServiceHash × QuietService)) → below_all hash_cmp h (by_hash (entries_of es)) ≡ below_all hash_cmp h es
below_entries h [] = refl
below_entries h (e ∷ es) = ap (λ b. is_lt (hash_cmp h e.0) && b) (below_entries h es)

sorted_entries : (es : List (ServiceHash × QuietService)) → is_sorted hash_cmp (by_hash (entries_of es)) ≡ is_sorted hash_cmp es
sorted_entries [] = refl
sorted_entries (e ∷ es) = rw (below_entries e.0 es, sorted_entries es) refl

find_entries : (h : ServiceHash) (es : List (ServiceHash × QuietService)) → find hash_cmp h (by_hash (entries_of es)) ≡ option_map (listed_service h) (find hash_cmp h es)
find_entries h [] = refl
find_entries h (e ∷ es) = elim (eq_by_cmp hash_cmp h e.0) as (λ b. eq_by_cmp hash_cmp h e.0 ≡ b → cond b (Some (listed_service e.0 e.1)) (find hash_cmp h (by_hash (entries_of es))) ≡ option_map (listed_service h) (cond b (Some e.1) (find hash_cmp h es))) [
  | true ↦ λ tied. ap (λ g. Some (listed_service g e.1)) (sym (same_hash h e.0 tied))
  | false ↦ λ apart. find_entries h es
] refl

shown_entry : (w : World) (h : ServiceHash) (o : Option QuietService) → ShowsService w h o → entry_at h (row_of w h) (segment_of w h) ≡ option_map (listed_service h) o
shown_entry w h None s = rw (s.row, s.segment) refl
shown_entry w h (Some x) s = rw (s.row, s.segment, s.as_many) refl

keyed_back : (es : List Entry) → map (λ (e : ServiceHash × Entry). e.1) (by_hash es) ≡ es
keyed_back [] = refl
keyed_back (e ∷ es) = ap (λ l. e ∷ l) (keyed_back es)

pub lists_the_machine : ListsItsServices
lists_the_machine w q es s l =
    let same : by_hash es ≡ by_hash (listing q) = same_entries hash_cmp hash_total hash_exact (by_hash es) (by_hash (listing q)) l.ascends (subst (λ b. T b) (sym (sorted_entries (finite.entries q.services))) (entries_sorted q.services)) (λ h.
    l.each h ∙ shown_entry w h (service_at q h) (s.services h) ∙ ap (option_map (listed_service h)) (get-entries q.services h) ∙ sym (find_entries h (finite.entries q.services))) in
    sym (keyed_back es) ∙ ap (λ k. map (λ (e : ServiceHash × Entry). e.1) k) same ∙ keyed_back (listing q)
