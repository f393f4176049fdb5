-- A line that is a call is nothing else.
use Rattle.std.proofs.Common.{◌≡◌, ℕ, Bool, true, false, ◌||◌, nat_eq, List, [], ◌∷◌, Some, None, get_or, refl, ap, ◌∙◌, subst}
use Rattle.iceoryx2_builder.specs.declared.command.Call.{Call}
use Rattle.iceoryx2_builder.specs.declared.command.Command.TheVariants as command
use Rattle.iceoryx2_builder.specs.declared.command.Settings.{Settings}
use Rattle.iceoryx2_builder.specs.declared.command.Settings.TheVariants as settings
use Rattle.negotiate_lines.specs.declared.line.Line.{Line}
use Rattle.negotiate_lines.specs.declared.line.Line.TheVariants as line
use Rattle.negotiate_lines.specs.declared.leaf.Form.TheVariants as form
use Rattle.negotiate_lines.specs.Commands.{IsCallOf}
use Rattle.negotiate_lines.specs.Lines.{IsLine}
use Rattle.explain_serve.specs.Explained.{call_of, IsCallLine}

-- the first byte of the first term
abbrev first_byte : List (List ℕ) → ℕ
first_byte [] = 0
first_byte (term ∷ terms) = get_or term 0 0

-- a call's line begins with an e, a p or an r, and no other one does
abbrev is_call_byte : ℕ → Bool
is_call_byte n = nat_eq n 101 || (nat_eq n 112 || nat_eq n 114)

begins_call : (of : Settings) (terms : List (List ℕ)) (call : Call) → IsCallOf form.Plain of terms call → is_call_byte (first_byte terms) ≡ true
begins_call (settings.Event setters) terms call holds = ap (λ ts. is_call_byte (first_byte ts)) holds.are
begins_call (settings.PublishSubscribe setters) terms call holds = ap (λ ts. is_call_byte (first_byte ts)) holds.are
begins_call (settings.RequestResponse setters) terms call holds = ap (λ ts. is_call_byte (first_byte ts)) holds.are

-- what begins otherwise is no call
begins_otherwise : (terms others : List (List ℕ)) (call : Call) → terms ≡ others → is_call_byte (first_byte others) ≡ false → IsCallOf form.Plain call.settings terms call → ⊥
begins_otherwise terms others call are other holds =
    let one : is_call_byte (first_byte terms) ≡ true = begins_call call.settings terms call holds in
    let two : is_call_byte (first_byte terms) ≡ false = ap (λ ts. is_call_byte (first_byte ts)) are ∙ other in
    cc

pub is_call_line : (bytes : List ℕ) (l : Line) (call : Call) → IsLine bytes l → call_of l ≡ Some call → IsCallLine bytes call
is_call_line bytes line.Blank call is same = absurd cc
is_call_line bytes (line.NotACommand w) call is same = absurd cc
is_call_line bytes (line.Command (command.Call other)) call is same = let e : other ≡ call = cc in subst (IsCallLine bytes) e is
is_call_line bytes (line.Command (command.Close slot)) call is same = absurd cc
is_call_line bytes (line.Command command.List) call is same = absurd cc

pub no_other_call : (bytes : List ℕ) (l : Line) (call : Call) → IsLine bytes l → IsCallLine bytes call → call_of l ≡ None → ⊥
no_other_call bytes line.Blank call is holds none = begins_otherwise _ [] call is.1 refl holds.1
no_other_call bytes (line.NotACommand w) call is holds none = (is.0 holds.0).1 (command.Call call) holds.1
no_other_call bytes (line.Command (command.Call other)) call is holds none = cc
no_other_call bytes (line.Command (command.Close slot)) call is holds none = begins_otherwise _ _ call is.1.are refl holds.1
no_other_call bytes (line.Command command.List) call is holds none = begins_otherwise _ _ call is.1 refl holds.1
