use Rattle.mm_lex.proofs.PushLemmas.{more-ok, more-words}
use Rattle.mm_lex.proofs.words.push_words.Goals as goal

pub returns-else-is_err-clause-ok : goal.returns-else-is_err-clause-ok
returns-else-is_err-clause-ok c = more-ok _ _ _ _ c.args.text.now.ok.0 c.extend_from_slice-added.result _ c.if-is_empty-2.ensures c.if-is_empty.ensures c.in_ok-push.ensures.items c.extend_from_slice-added.ensures.items c.if-is_err.ensures.value

pub returns-else-is_err-clause-words : goal.returns-else-is_err-clause-words
returns-else-is_err-clause-words c = more-words _ _ _ _ c.args.text.now.ok.0 c.extend_from_slice-added.result _ c.requires.words c.requires.more c.if-is_empty-2.ensures c.if-is_empty.ensures c.in_ok-push.ensures.items c.extend_from_slice-added.ensures.items c.if-is_err.ensures.value
