use Rattle.steps.proofs.Words.{◌∷◌, inr, sym, ◌∙◌, ap, refl, on_ok_weaker, place_of}
use Rattle.steps.proofs.table_draft.TableDraft.cite_step.Goals as goal

pub returns : goal.returns
returns c =
    on_ok_weaker c.add_step.result
    (λ h. inr (record {
      made = record { position = c.args.position; taken = c.args.taken; range = c.args.range };
      is_position = refl;
      is_taken = refl;
      is_range = refl;
      fresh = ap (place_of c.args.self.now.step_places) (sym (c.deref-2.ensures.value ∙ (c.in_ok-key.ensures ∙ ap (λ t. c.args.position ∷ t) c.deref.ensures.value))) ∙ (sym c.find_place.ensures ∙ c.in_default.is);
      adds = h;
    })) c.add_step.ensures
