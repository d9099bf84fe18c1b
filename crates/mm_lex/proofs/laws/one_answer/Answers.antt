use Rattle.mm_lex.proofs.TokensLemmas.{some_answer, AreTokens-unique, AreTokens-no_comment_fault, IsCommentFault-unique}
use Rattle.mm_lex.proofs.BadByteLemmas.{HasOnlyAllowedBytes-no_fault, IsFirstBadByte-unique}
use Rattle.mm_lex.proofs.laws.one_answer.Goals as goal

pub returns : goal.returns
returns c = record {
  some = some_answer;
  tokens_or_text = λ text tokens offset is fault. HasOnlyAllowedBytes-no_fault text offset is.0 fault;
  tokens_or_comment = AreTokens-no_comment_fault;
  text_or_comment = λ text a b is fault. HasOnlyAllowedBytes-no_fault text a fault.0 is;
  one_list = AreTokens-unique;
  one_text_fault = IsFirstBadByte-unique;
  one_comment_fault = IsCommentFault-unique;
}
