use Rattle.std.proofs.Common.{sym, ◌∙◌}
use Rattle.std.proofs.lemmas.Result.{IfOk-weaker}
use Rattle.proof_text.proofs.RequestLemmas.{provable-there}
use Rattle.proof_text.proofs.TextLemmas.{bare-provable, rewritten}
use Rattle.proof_text.proofs.text.is_rewritten.Goals as goal

pub proves_by_steps-requires-clause-provable : goal.proves_by_steps-requires-clause-provable
proves_by_steps-requires-clause-provable c = provable-there c.args.request.now c.requires.request

pub returns : goal.returns
returns c =
    IfOk-weaker c.proves_by_steps.result _ _
    (λ same w yes. rewritten c.args.request.now.frames.now.statements c.args.request.now.at c.args.request.now.form c.args.old.now c.args.new.now _ _ _ _ _ _ _ c.in-Prove.is c.in-Prove-new.is
    (c.are_words_equal.ensures c.if-not-are_words_equal.false) (c.are_word_lists_equal.ensures c.if-not-are_word_lists_equal.false)
    (sym c.is_compressed.ensures ∙ c.is_in_form.ensures c.if-not-is_in_form.false) (w yes))
    (c.proves_by_steps.ensures _ (bare-provable c.args.request.now.frames.now.statements c.args.request.now.at c.args.old.now _ _ _ c.requires.old c.in-Prove.is))
