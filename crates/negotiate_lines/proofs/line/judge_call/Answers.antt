use Rattle.std.proofs.Common.{◌∷◌, ℕ, List, Err, ap, subst, sym, ◌∙◌, rules}
use Rattle.iceoryx2_builder.specs.Commands.{slot_count}
use Rattle.iceoryx2_description.specs.Names.{IsName}
use Rattle.negotiate_lines.specs.CallTerms.{TakesTerms, no_arguments}
use Rattle.negotiate_lines.specs.Commands.{IsNamedCallOf, admitted_of}
use Rattle.negotiate_lines.specs.Leaves.{IsLeaf}
use Rattle.negotiate_lines.specs.Terms.{IsNumber, terms_of}
use Rattle.negotiate_lines.specs.Values.{IsNatural}
use Rattle.negotiate_lines.specs.Wrongs.{WrongArguments, WrongCall, WrongNode, WrongSlot, at_node, at_slot, at_name, at_term}
use Rattle.negotiate_lines.proofs.Additions.{broken}
use Rattle.negotiate_lines.proofs.OneLeaf.{one_leaf}
use Rattle.negotiate_lines.proofs.Judging.{passed, passed_first, no_node, no_slot, no_name, no_such_name, no_terms, how_before, node_before, slot_before, terms_before, too_short_or_long}
use Rattle.negotiate_lines.proofs.line.judge_call.Goals as goal

pub returns-in_err-node : goal.returns-in_err-node
returns-in_err-node g c =
    let v = g.V.HasVocabulary.vocabulary in
    let terms = terms_of c.args.others.now in
    let h = c.in_ok-how.how in
    passed_first IsNatural WrongNode (terms_of c.in_ok-how.others.now) (IsNamedCallOf c.args.form v (v.pattern ∷ terms)) (WrongCall c.args.form v terms) _ _
    c.from_residual-in_err-node.ensures.1 c.in_err-node.ensures
    (λ none. no_node c.args.form v terms h _ c.in_ok-how.ensures none)
    (λ w is. at_node h (terms_of c.in_ok-how.others.now) (how_before c.args.form v terms h _ c.in_ok-how.ensures) is)

pub returns-in_err-slot : goal.returns-in_err-slot
returns-in_err-slot g c =
    let v = g.V.HasVocabulary.vocabulary in
    let terms = terms_of c.args.others.now in
    let h = c.in_ok-how.how in
    let node = c.in_ok-node.ensures in
    passed_first (IsNumber slot_count) WrongSlot (terms_of c.in_ok-node.others.now) (IsNamedCallOf c.args.form v (v.pattern ∷ terms)) (WrongCall c.args.form v terms) _ _
    c.from_residual-in_err-slot.ensures.1 c.in_err-slot.ensures
    (λ none. no_slot c.args.form v terms h _ c.in_ok-how.ensures _ _ node none)
    (λ w is. at_slot h node.0 (terms_of c.in_ok-node.others.now) (node_before c.args.form v terms h _ c.in_ok-how.ensures _ _ node) (c.in_ok-node.node, node.2) is)

pub returns-in_default : goal.returns-in_default
returns-in_default g c =
    let v = g.V.HasVocabulary.vocabulary in
    let terms = terms_of c.args.others.now in
    let h = c.in_ok-how.how in
    let node = c.in_ok-node.ensures in
    let slot = c.in_ok-slot.ensures in (
      no_name c.args.form v terms h _ c.in_ok-how.ensures _ _ node _ _ slot c.in_default.ensures.term,
      at_name h node.0 slot.0 (terms_of c.in_ok-slot.others.now) (slot_before c.args.form v terms h _ c.in_ok-how.ensures _ _ node _ _ slot)
          (c.in_ok-node.node, node.2) (c.in_ok-slot.slot, slot.2) c.in_default.ensures.term,
    )

pub returns-in_err-text : goal.returns-in_err-text
returns-in_err-text g c =
    let v = g.V.HasVocabulary.vocabulary in
    let form = c.args.form in
    let terms = terms_of c.args.others.now in
    let h = c.in_ok-how.how in
    let node = c.in_ok-node.ensures in
    let slot = c.in_ok-slot.ensures in
    broken form c.in-Some.term.now (IsNamedCallOf form v (v.pattern ∷ terms)) (WrongCall form v terms) _ _
    c.from_residual-in_err-text.ensures.1 c.in_err-text.ensures
    (λ none. no_such_name form v terms h _ c.in_ok-how.ensures _ _ node _ _ slot _ _ c.in-Some.ensures.term (λ of. none of.0))
    (λ none t same. at_name h node.0 slot.0 (terms_of c.in_ok-slot.others.now) (slot_before form v terms h _ c.in_ok-how.ensures _ _ node _ _ slot)
    (c.in_ok-node.node, node.2) (c.in_ok-slot.slot, slot.2) (
      _,
      c.in-Some.ensures.term ∙ ap (λ word. word ∷ terms_of c.in-Some.others.now) (sym same),
      λ text. none (text.0, subst (λ (word : List ℕ). IsLeaf form word text.0) same text.1),
    ))

pub returns-in-Err-Length : goal.returns-in-Err-Length
returns-in-Err-Length g c =
    let v = g.V.HasVocabulary.vocabulary in
    let form = c.args.form in
    let terms = terms_of c.args.others.now in
    let h = c.in_ok-how.how in
    let node = c.in_ok-node.ensures in
    let slot = c.in_ok-slot.ensures in
    let text = c.deref.result.now in
    let leaf : IsLeaf form c.in-Some.term.now text =
    subst (λ (t : List ℕ). IsLeaf form c.in-Some.term.now t) (sym c.deref.ensures.value) c.in_ok-text.ensures in
    let none : IsName text → ⊥ = λ is. too_short_or_long _ _ _ (c.new.ensures.length.0 (c.in-Err-Length.is ∙ ap (λ e. Err e) c.in-Err-Length.field-0-is)) is in (
      no_such_name form v terms h _ c.in_ok-how.ensures _ _ node _ _ slot _ _ c.in-Some.ensures.term
          (λ of. none (subst IsName (one_leaf form c.in-Some.term.now of.0.0 text of.0.1 leaf) of.1)),
      at_name h node.0 slot.0 (terms_of c.in_ok-slot.others.now) (slot_before form v terms h _ c.in_ok-how.ensures _ _ node _ _ slot)
          (c.in_ok-node.node, node.2) (c.in_ok-slot.slot, slot.2) (_, c.in-Some.ensures.term, ((text, leaf), none)),
    )

pub returns-in_err-arguments : goal.returns-in_err-arguments
returns-in_err-arguments g c =
    let v = g.V.HasVocabulary.vocabulary in
    let terms = terms_of c.args.others.now in
    let h = c.in_ok-how.how in
    let node = c.in_ok-node.ensures in
    let slot = c.in_ok-slot.ensures in
    let others = terms_of c.in-Some.others.now in
    passed (TakesTerms c.args.form v (admitted_of v.has_clock h) no_arguments others) (IsNamedCallOf c.args.form v (v.pattern ∷ terms)) (WrongArguments c.args.form v h others) (WrongCall c.args.form v terms) _ _
    c.from_residual-in_err-arguments.ensures.1 c.in_err-arguments.ensures
    (λ none. no_terms c.args.form v terms h _ c.in_ok-how.ensures _ _ node _ _ slot c.in-Some.term.now others c.in-Some.ensures.term none)
    (λ w is. at_term h node.0 slot.0 c.in-Some.term.now others (terms_before c.args.form v terms h _ c.in_ok-how.ensures _ _ node _ _ slot _ _ c.in-Some.ensures.term)
    (c.in_ok-node.node, node.2) (c.in_ok-slot.slot, slot.2)
    ((c.deref.result.now, subst (λ (t : List ℕ). IsLeaf c.args.form c.in-Some.term.now t) (sym c.deref.ensures.value) c.in_ok-text.ensures), search rules) is)
