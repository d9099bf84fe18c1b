use Rattle.explain.proofs.Words.{◌≡◌, ◌∷◌, sym, ◌∙◌, left_parenthesis, begins}
use Rattle.explain.proofs.TokenLemmas.{not-label-listed, right_parenthesis-listing, letters-broken, letters-write}
use Rattle.explain.proofs.broken_code.code_break_with_set.Goals as goal

pub unreachable-requires : goal.unreachable-requires
unreachable-requires c =
    let starts : c.args.tokens.now ≡ left_parenthesis ∷ c.next.new.self = begins _ _ _ c.next.result c.next.ensures.steps c.iter-words.ensures.words c.requires.compressed in
    let l = right_parenthesis-listing c.args.tokens.now c.args.mandatory.now c.next.new.self _ _ _ starts c.in-Some.ensures c.as_slice.result.now c.as_slice.ensures (sym c.eq.ensures ∙ c.if-eq.true) in
    let w = letters-write _ _ _ _ l c.len-then-eq-2.result c.len-then-eq-2.ensures c.as_slice-then-eq.result.now (c.as_slice-then-eq.ensures.value ∙ c.in_ok-letters.ensures) c.requires.finished c.requires.compressed c.in-None.ensures in
    c.requires.none w.0 w.1

pub returns-then-eq : goal.returns-then-eq
returns-then-eq c =
    let starts : c.args.tokens.now ≡ left_parenthesis ∷ c.next.new.self = begins _ _ _ c.next.result c.next.ensures.steps c.iter-words.ensures.words c.requires.compressed in
    let l = right_parenthesis-listing c.args.tokens.now c.args.mandatory.now c.next.new.self _ _ _ starts c.in-Some.ensures c.as_slice.result.now c.as_slice.ensures (sym c.eq.ensures ∙ c.if-eq.true) in
    (c.requires.finished, letters-broken _ _ _ _ l c.len-then-eq-2.result c.len-then-eq-2.ensures c.as_slice-then-eq.result.now (c.as_slice-then-eq.ensures.value ∙ c.in_ok-letters.ensures) _ c.in-Some-letter_break.ensures)

pub returns-else-is_label : goal.returns-else-is_label
returns-else-is_label c =
    let starts : c.args.tokens.now ≡ left_parenthesis ∷ c.next.new.self = begins _ _ _ c.next.result c.next.ensures.steps c.iter-words.ensures.words c.requires.compressed in
    (c.requires.finished, not-label-listed c.args.tokens.now c.args.mandatory.now c.next.new.self _ _ _ starts c.in-Some.ensures c.as_slice.result.now c.as_slice.ensures (sym c.eq.ensures ∙ c.if-eq.false) (sym c.is_label.ensures ∙ c.if-is_label.false))
