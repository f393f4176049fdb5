-- Which command terms are.
use Rattle.std.specs.Prelude.{ℕ, ◌≡◌, ◌^◌, Bool, true, false, List, [], ◌∷◌, codes}
use Rattle.iceoryx2_description.specs.Names.{IsName}
use Rattle.iceoryx2_builder.specs.declared.command.Command.{Command}
use Rattle.iceoryx2_builder.specs.declared.command.Command.TheVariants as command
use Rattle.iceoryx2_builder.specs.declared.command.Call.{Call}
use Rattle.iceoryx2_builder.specs.declared.command.How.{How}
use Rattle.iceoryx2_builder.specs.declared.command.How.TheVariants as how
use Rattle.iceoryx2_builder.specs.declared.command.Settings.{Settings}
use Rattle.iceoryx2_builder.specs.declared.command.Settings.TheVariants as settings
use Rattle.iceoryx2_builder.specs.Commands.{slot_count}
use Rattle.negotiate_lines.specs.declared.vocabulary.Admitted.{Admitted}
use Rattle.negotiate_lines.specs.declared.leaf.Form.{Form}
use Rattle.negotiate_lines.specs.Leaves.{IsLeaf}
use Rattle.negotiate_lines.specs.Terms.{IsNumber}
use Rattle.negotiate_lines.specs.Vocabulary.{Vocabulary}
use Rattle.negotiate_lines.specs.CallTerms.{no_arguments, TakesTerms}
use Rattle.negotiate_lines.specs.declared.line.NamedCall.{NamedCall}
use Rattle.negotiate_lines.specs.SettingTerms.{event_vocabulary, publish_subscribe_vocabulary}
use Rattle.negotiate_lines.specs.SettingTerms.{request_response_vocabulary}

-- the term that means how a service is wanted
abbrev pub how_term : How → List ℕ
how_term how.Create = codes "create"
how_term how.Open = codes "open"
how_term how.OpenOrCreate = codes "open_or_create"

-- which of the terms that every pattern has go with such a call: the time where the pattern's creates are given it
abbrev pub admitted_of : (has_clock : Bool) → How → Admitted
admitted_of has_clock how.Create = record { now = has_clock; require_key = false }
admitted_of has_clock how.Open = record { now = false; require_key = true }
admitted_of has_clock how.OpenOrCreate = record { now = has_clock; require_key = true }

-- The terms are a call in a pattern's vocabulary. Those behind the name make all of it that the first five don't.
pub record IsNamedCallOf {S : Type 0} (form : Form) (v : Vocabulary S) (terms : List (List ℕ)) (call : NamedCall S)
    : Type 0 where
  pub node : List ℕ
  pub slot : List ℕ
  pub name : List ℕ
  pub others : List (List ℕ)
  pub are : terms ≡ v.pattern ∷ how_term call.how ∷ node ∷ slot ∷ name ∷ others
  pub node_is : IsNumber (2 ^ 64) node call.node
  pub slot_is : IsNumber slot_count slot call.slot
  pub text_is : IsLeaf form name call.name
  pub name_is : IsName call.name
  pub taken : TakesTerms form v (admitted_of v.has_clock call.how) no_arguments others call.arguments

-- a session's call, with its settings as a pattern has them
abbrev pub as_named : {S : Type 0} → Call → List S → NamedCall S
as_named call setters = record {
  how = call.how;
  node = call.node;
  slot = call.slot;
  name = call.name;
  arguments = record { settings = setters; requirements = call.attributes; now = call.now };
}

-- The terms are a builder call, in the vocabulary of the pattern of its settings.
abbrev pub IsCallOf : Form → Settings → List (List ℕ) → Call → Type 0
IsCallOf form (settings.Event setters) terms call =
    IsNamedCallOf form event_vocabulary terms (as_named call setters.items)
IsCallOf form (settings.PublishSubscribe setters) terms call =
    IsNamedCallOf form publish_subscribe_vocabulary terms (as_named call setters.items)
IsCallOf form (settings.RequestResponse setters) terms call =
    IsNamedCallOf form request_response_vocabulary terms (as_named call setters.items)

-- The terms close a slot.
pub record IsCloseOf (terms : List (List ℕ)) (closed : ℕ) : Type 0 where
  pub slot : List ℕ
  pub are : terms ≡ codes "close" ∷ slot ∷ []
  pub slot_is : IsNumber slot_count slot closed

-- The terms are the command, in a line of this form.
abbrev pub IsCommandOf : Form → List (List ℕ) → Command → Type 0
IsCommandOf form terms (command.Call call) = IsCallOf form call.settings terms call
IsCommandOf form terms (command.Close slot) = IsCloseOf terms slot
IsCommandOf form terms command.List = terms ≡ codes "list" ∷ []
