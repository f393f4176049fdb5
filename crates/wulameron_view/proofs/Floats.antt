-- No number of these texts is a float.
use Rattle.std.proofs.Common.{◌≡◌, ℕ, ◌+◌, ◌<◌, Bool, true, false, List, [], ◌∷◌, ◌++◌, Option, Some, None, map, length, drop, get_or, refl, sym, ap, ◌∙◌}
use Rattle.std.specs.Prelude.{◌||◌}
use Rattle.std.specs.Ordering.{nat_cmp, match_ordering}
use Rattle.std.specs.Cmp.Lexicographic.{slice_cmp}
use Rattle.std.specs.declared.cmp.Ordering.{Ordering}
use Rattle.std.specs.declared.cmp.Ordering.TheVariants.{Less, Equal, Greater}
use Rattle.std.proofs.lemmas.List.{drop_more}
use Rattle.serde_json.specs.Data.{Data, Members, no_members, member, put}
use Rattle.serde_json.specs.View.{items_of}
use Rattle.serde_json.specs.Written.{has_float, items_have_float, members_have_float}
use Rattle.iceoryx2_attribute.specs.Attributes.{Pair}
use Rattle.iceoryx2_description.specs.declared.description.MessagingPattern.{MessagingPattern}
use Rattle.iceoryx2_description.specs.declared.description.MessagingPattern.TheVariants as pattern
use Rattle.iceoryx2_monitoring.specs.declared.state.NodeState.{NodeState}
use Rattle.iceoryx2_monitoring.specs.declared.state.NodeState.TheVariants as state
use Rattle.iceoryx2_monitoring.specs.declared.state.NodeStatus.{NodeStatus}
use Rattle.wulameron_view.specs.declared.services.Member.{Member}
use Rattle.wulameron_view.specs.declared.services.Service.{Service}
use Rattle.wulameron_view.specs.declared.services.Creation.{Creation}
use Rattle.wulameron_view.specs.declared.services.Services.{Services}
use Rattle.wulameron_view.specs.declared.settings.Value.{Value}
use Rattle.wulameron_view.specs.declared.settings.Value.TheVariants as value
use Rattle.wulameron_view.specs.Settings.{Setting, settings_of}
use Rattle.wulameron_view.specs.declared.states.NodeStanding.{NodeStanding}
use Rattle.wulameron_view.specs.declared.states.Standing.{Standing}
use Rattle.wulameron_view.specs.declared.states.Standing.TheVariants as standing
use Rattle.wulameron_view.specs.States.{state_of}
use Rattle.wulameron_view.specs.Nodes.{node_data, nodes_data, standing_alive}
use Rattle.wulameron_view.specs.Data.{count_or_null, alive_data, member_data, service_data, creation_data, list_data, value_data, setting_data, with_settings, attribute_data, types_data, show_data}

both : (a b : Bool) → a ≡ false → b ≡ false → (a || b) ≡ false
both false b p q = q
both true b p q = absurd cc

left : (a b : Bool) → (a || b) ≡ false → a ≡ false
left false b p = refl
left true b p = absurd cc

right : (a b : Bool) → (a || b) ≡ false → b ≡ false
right false b p = p
right true b p = absurd cc

each : {A : Type 0} (data_of : A → Data) → ((x : A) → has_float (data_of x) ≡ false) → (xs : List A) → items_have_float (items_of (map data_of xs)) ≡ false
each data_of free [] = refl
each data_of free (x ∷ xs) = both (has_float (data_of x)) (items_have_float (items_of (map data_of xs))) (free x) (each data_of free xs)

appended : (ds es : List Data) → items_have_float (items_of ds) ≡ false → items_have_float (items_of es) ≡ false → items_have_float (items_of (ds ++ es)) ≡ false
appended [] es p q = q
appended (d ∷ ds) es p q =
    both (has_float d) (items_have_float (items_of (ds ++ es))) (left (has_float d) (items_have_float (items_of ds)) p)
    (appended ds es (right (has_float d) (items_have_float (items_of ds)) p) q)

counts : (o : Option ℕ) → has_float (count_or_null o) ≡ false
counts None = refl
counts (Some n) = refl

alive : (s : NodeState) → has_float (alive_data s) ≡ false
alive state.Alive = refl
alive state.Lost = refl
alive state.Dead = refl
alive state.DoesNotExist = refl

members : (states : List NodeStatus) (m : Member) → has_float (member_data states m) ≡ false
members states m = both (has_float (alive_data (state_of states m.node))) false (alive (state_of states m.node)) refl

pub services : (states : List NodeStatus) (s : Service) → has_float (service_data states s) ≡ false
services states s =
    let nodes = each (member_data states) (members states) s.members.items in
    both (has_float (count_or_null s.description.creator)) (items_have_float (items_of (map (member_data states) s.members.items)) || false)
    (counts s.description.creator) (both (items_have_float (items_of (map (member_data states) s.members.items))) false nodes refl)

pub creations : (c : Creation) → has_float (creation_data c) ≡ false
creations c = both (has_float (count_or_null c.node)) false (counts c.node) refl

pub list_free : (states : List NodeStatus) (all : Services) → has_float (list_data states all) ≡ false
list_free states all =
    appended (map (service_data states) all.published.items) (map creation_data all.creations.items)
    (each (service_data states) (services states) all.published.items) (each creation_data creations all.creations.items)

stands : (s : Standing) → has_float (standing_alive s) ≡ false
stands standing.Alive = refl
stands standing.Lost = refl
stands standing.Dead = refl
stands standing.Ended = refl
stands standing.NeverClaimed = refl

pub listed : (n : NodeStanding) → has_float (node_data n) ≡ false
listed n = both (has_float (standing_alive n.standing)) false (stands n.standing) refl

pub nodes_free : (nodes : List NodeStanding) → has_float (nodes_data nodes) ≡ false
nodes_free nodes = each node_data listed nodes

values : (v : Value) → has_float (value_data v) ≡ false
values (value.Number n) = refl
values (value.Truth b) = refl
values (value.Event None) = refl
values (value.Event (Some id)) = refl
values (value.Deadline None) = refl
values (value.Deadline (Some d)) = refl

setting : (s : Setting) → has_float (setting_data s) ≡ false
setting s = both (has_float (value_data s.value)) false (values s.value) refl

putting : (k l : List ℕ) (d e : Data) (ms rest : Members) (r : Ordering) → has_float d ≡ false → members_have_float (member l e ms) ≡ false → members_have_float rest ≡ false
    → members_have_float (match_ordering r (member k d (member l e ms)) (member l d ms) (member l e rest)) ≡ false
putting k l d e ms rest Less p q s = both (has_float d) (members_have_float (member l e ms)) p q
putting k l d e ms rest Equal p q s = both (has_float d) (members_have_float ms) p (right (has_float e) (members_have_float ms) q)
putting k l d e ms rest Greater p q s = both (has_float e) (members_have_float rest) (left (has_float e) (members_have_float ms) q) s

put_free : (k : List ℕ) (d : Data) (ms : Members) → has_float d ≡ false → members_have_float ms ≡ false → members_have_float (put k d ms) ≡ false
put_free k d no_members p q = both (has_float d) false p refl
put_free k d (member l e ms) p q =
    putting k l d e ms (put k d ms) (slice_cmp nat_cmp k l) p q (put_free k d ms p (right (has_float e) (members_have_float ms) q))

settings_free : (ss : List Setting) (ms : Members) → members_have_float ms ≡ false → members_have_float (with_settings ss ms) ≡ false
settings_free [] ms p = p
settings_free (s ∷ ss) ms p = settings_free ss (put s.name (setting_data s) ms) (put_free s.name (setting_data s) ms (setting s) p)

types : (p : MessagingPattern) → has_float (types_data p) ≡ false
types (pattern.Event s) = refl
types (pattern.PublishSubscribe s) = refl
types (pattern.RequestResponse s) = refl

pub show_free : (states : List NodeStatus) (s : Service) → has_float (show_data states s) ≡ false
show_free states s =
    let attributes = each attribute_data (λ (p : Pair). refl) s.description.attributes in
    let ss = settings_of s.description.pattern in
    both (items_have_float (items_of (map attribute_data s.description.attributes)))
    (has_float (service_data states s) || (members_have_float (with_settings ss no_members) || (has_float (types_data s.description.pattern) || false))) attributes
    (both (has_float (service_data states s)) (members_have_float (with_settings ss no_members) || (has_float (types_data s.description.pattern) || false)) (services states s)
    (both (members_have_float (with_settings ss no_members)) (has_float (types_data s.description.pattern) || false) (settings_free ss no_members refl)
    (both (has_float (types_data s.description.pattern)) false (types s.description.pattern) refl)))

-- the next setting goes to its place
pub next_setting : (ss : List Setting) (i : ℕ) (s : Setting) (ms : Members) → i < length ss → s ≡ get_or ss i s
    → with_settings (drop i ss) ms ≡ with_settings (drop (i + 1) ss) (put s.name (setting_data s) ms)
next_setting ss i s ms within is =
    ap (λ l. with_settings l ms) (drop_more ss i s within)
    ∙ ap (λ x. with_settings (drop (i + 1) ss) (put x.name (setting_data x) ms)) (sym is)
