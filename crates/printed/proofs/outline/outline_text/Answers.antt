use Rattle.printed.proofs.Words.{◌∙◌, ap, inl, inr, IfOk-weaker, outline_of}
use Rattle.printed.proofs.outline.outline_text.Goals as goal

pub returns-in-Ok : goal.returns-in-Ok
returns-in-Ok c = IfOk-weaker c.outline.result _ _ (λ bytes is. record {
  reads = λ S reads. is ∙ ap outline_of (c.as_slice.ensures.value ∙ c.in-Ok.ensures.statements S reads);
  text_fault = λ offset fault. let e = c.in-Ok.ensures.text_fault offset fault in cc;
  comment_fault = λ offset fault. let e = c.in-Ok.ensures.comment_fault offset fault in cc;
  shape_fault = λ token fault. absurd (c.in-Ok.ensures.shape token fault);
}) c.outline.ensures

pub returns-in-Err-Text-Text : goal.returns-in-Err-Text-Text
returns-in-Err-Text-Text c = IfOk-weaker c.refusal_line.result _ _ (λ bytes is. record {
  reads = λ S reads. let e = c.in-Err-Text-Text.ensures.statements S reads in cc;
  text_fault = λ offset fault. let e = c.in-Err-Text-Text.ensures.text_fault offset fault in cc;
  comment_fault = λ offset fault. let e = c.in-Err-Text-Text.ensures.comment_fault offset fault in cc;
  shape_fault = λ token fault. elim (c.in-Err-Text-Text.ensures.shape token fault) [ inl e ↦ cc | inr e ↦ cc ];
}) c.refusal_line.ensures

pub returns-in-Err-Text-Comment : goal.returns-in-Err-Text-Comment
returns-in-Err-Text-Comment c = IfOk-weaker c.refusal_line-in-Err-Text-Comment.result _ _ (λ bytes is. record {
  reads = λ S reads. let e = c.in-Err-Text-Comment.ensures.statements S reads in cc;
  text_fault = λ offset fault. let e = c.in-Err-Text-Comment.ensures.text_fault offset fault in cc;
  comment_fault = λ offset fault. let e = c.in-Err-Text-Comment.ensures.comment_fault offset fault in cc;
  shape_fault = λ token fault. elim (c.in-Err-Text-Comment.ensures.shape token fault) [ inl e ↦ cc | inr e ↦ cc ];
}) c.refusal_line-in-Err-Text-Comment.ensures

pub returns-in-Err-Shape : goal.returns-in-Err-Shape
returns-in-Err-Shape c = IfOk-weaker c.refusal_line-in-Err-Shape.result _ _ (λ bytes is. record {
  reads = λ S reads. let e = c.in-Err-Shape.ensures.statements S reads in cc;
  text_fault = λ offset fault. let e = c.in-Err-Shape.ensures.text_fault offset fault in cc;
  comment_fault = λ offset fault. let e = c.in-Err-Shape.ensures.comment_fault offset fault in cc;
  shape_fault = λ token fault. elim (c.in-Err-Shape.ensures.shape token fault) [ inl e ↦ cc | inr e ↦ cc ];
}) c.refusal_line-in-Err-Shape.ensures
