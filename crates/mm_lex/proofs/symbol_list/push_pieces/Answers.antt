use Rattle.mm_lex.proofs.Prelude.{◌∙◌, ap, sym, refl, arith, drop, length, ◌≡◌, ◌<◌, ◌≤◌, ◌+◌, false, length-drop, take_rest, is_empty_or_starts_white, spaced_prefix_len}
use Rattle.mm_lex.proofs.ListLemmas.{adds_none, adds_on, adds_white, prefix_words, prefix_adds}
use Rattle.mm_lex.proofs.symbol_list.push_pieces.Goals as goal

pub loop-at-init : goal.loop-at-init
loop-at-init c = adds_none c.args.from c.args.words.now c.requires.place

pub push_text-requires : goal.push_text-requires
push_text-requires c =
    let text = c.args.text.now in
    let start = c.skip_white-start.result in
    let n = c.count_spaced_prefix.result in
    let rest = take_rest text start in
    let is : n ≡ spaced_prefix_len (drop start text) = c.count_spaced_prefix.ensures.count ∙ ap spaced_prefix_len rest in
    let some : 0 < n = omega (arith, c.if-start-end.false) in
    let within : start + n ≤ length text = omega (arith, c.count_spaced_prefix.ensures.within, ap length rest, length-drop start text, c.skip_white-start.ensures.within) in
    let shown : is_empty_or_starts_white (drop start text) ≡ false = c.skip_white-start.ensures.not_white (omega (arith, some, within)) in
    prefix_words text start (start + n) n c.requires.allowed shown is some refl within (sym c.if-not-is_word_end.ensures)

pub loop-at-preserved : goal.loop-at-preserved
loop-at-preserved c =
    let text = c.args.text.now in
    let start = c.skip_white-start.result in
    let n = c.count_spaced_prefix.result in
    let rest = take_rest text start in
    let is : n ≡ spaced_prefix_len (drop start text) = c.count_spaced_prefix.ensures.count ∙ ap spaced_prefix_len rest in
    let some : 0 < n = omega (arith, c.if-start-end.false) in
    let within : start + n ≤ length text = omega (arith, c.count_spaced_prefix.ensures.within, ap length rest, length-drop start text, c.skip_white-start.ensures.within) in
    let shown : is_empty_or_starts_white (drop start text) ≡ false = c.skip_white-start.ensures.not_white (omega (arith, some, within)) in
    let white = c.skip_white-start.ensures in
    adds_on c.loop-at.invariant (adds_on (adds_white c.loop-at.at start c.loop-at.words white.later white.within white.runs)
    (prefix_adds text start (start + n) n c.requires.allowed shown is some refl within (sym c.if-not-is_word_end.ensures) _ _ c.in_ok-push_text.ensures.ok))
