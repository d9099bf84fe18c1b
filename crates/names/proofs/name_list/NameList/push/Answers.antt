use Rattle.names.proofs.Words.{◌≡◌, ◌∙◌, ap, sym, subst, arith, length, ◌++◌, ◌∷◌, [], ◌+◌, names_from, AreAscendingEnds}
use Rattle.std.proofs.lemmas.List.{length-append}
use Rattle.entries.proofs.AddedStatement.{on-ok}
use Rattle.names.proofs.NameListLemmas.{push-name, ascending-push}
use Rattle.names.proofs.name_list.NameList.push.Goals as goal
use Rattle.names.proofs.name_list.NameList.push.Goals.{Else-is_err}

size : (c : Else-is_err) → length c.extend_from_slice.new.self.items ≡ length c.self.inside.bytes.items + length c.args.name.now
size c = ap length c.in_ok-extend_from_slice.ensures.items ∙ length-append c.self.inside.bytes.items c.args.name.now

to-is : (c : Else-is_err) → length c.as_slice-to.result.now ≡ length c.extend_from_slice.new.self.items
to-is c = ap length c.as_slice-to.ensures.value

ends-are : (c : Else-is_err) → c.push_end-pushed.new.ends.items ≡ c.self.inside.ends.items ++ length c.as_slice-to.result.now ∷ []
ends-are c = on-ok c.push_end-pushed.result _ (sym c.is_err.ensures.value ∙ c.if-is_err.false) c.push_end-pushed.ensures.ok

pub returns-clause-ok : goal.returns-clause-ok
returns-clause-ok c =
    ap (λ xs. names_from xs 0 c.push_end-pushed.new.ends.items) c.in_ok-extend_from_slice.ensures.items
    ∙ (ap (names_from (c.self.inside.bytes.items ++ c.args.name.now) 0) (ends-are c)
    ∙ (push-name c.self.inside.bytes.items c.args.name.now 0 c.self.inside.ends.items (length c.as_slice-to.result.now) c.self.invariant (to-is c ∙ size c)
    ∙ ap (λ r. r ++ c.args.name.now ∷ []) c.self.view_is))

pub invariant_of-self-else-is_err : goal.invariant_of-self-else-is_err
invariant_of-self-else-is_err c =
    let more = size c in
    subst (AreAscendingEnds (length c.extend_from_slice.new.self.items) 0) (sym (ends-are c ∙ ap (λ n. c.self.inside.ends.items ++ n ∷ []) (to-is c)))
    (ascending-push (length c.self.inside.bytes.items) (length c.extend_from_slice.new.self.items) 0 c.self.inside.ends.items (omega (arith, more)) c.self.invariant)
