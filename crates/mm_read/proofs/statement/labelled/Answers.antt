use Rattle.mm_read.proofs.Words.{◌∙◌, ap, sym, refl, subst, arith, codes, ◌∷◌, [], err_from_is_err_and, AreTokensBetween, AreTokensAfter, IsTokenAfter, IsNextToken, between_on, between_as}
use Rattle.mm_read.proofs.StatementsLemmas.{are_symbols_of}
use Rattle.mm_read.proofs.ReaderStates.{labelled, step}
use Rattle.mm_read.proofs.PartFaults.{key_after_label}
use Rattle.mm_read.proofs.AfterFaults.{fault_back, labelled_list, label_alone, label_before}
use Rattle.mm_read.proofs.NextLemmas.{essential_next, axiom_next, on_ok, on_err}
use Rattle.mm_read.proofs.statement.labelled.Goals as goal

pub returns-in_default-clause-fault : goal.returns-in_default-clause-fault
returns-in_default-clause-fault c =
    let text = c.args.text.now in
    let none : AreTokensAfter text c.args.at [] = subst (IsNextToken text c.args.at) c.in_default.is c.in_ok-keyword.ensures.next in
    label_alone text c.args.at c.args.label.now c.requires.label none

pub returns-in_err-expr-in-Ess-clause-fault : goal.returns-in_err-expr-in-Ess-clause-fault
returns-in_err-expr-in-Ess-clause-fault c =
    let text = c.args.text.now in
    let label = c.args.label.now in
    let next : IsTokenAfter text c.args.at c.in-Some.keyword = subst (IsNextToken text c.args.at) c.in-Some.is c.in_ok-keyword.ensures.next in
    let has : AreTokensBetween text c.args.at c.in-Some.keyword.end (codes "$e" ∷ []) = between_as (ap (λ w. w ∷ []) (sym c.token_bytes.ensures ∙ c.in-Ess.ensures)) next.between in
    let p = err_from_is_err_and c.from_residual-in_err-expr-in-Ess.result c.from_residual-in_err-expr-in-Ess.ensures.1 in
    rw (p.1, p.2) (fault_back text (label ∷ []) has _ (labelled_list text c.in-Some.keyword.end label c.requires.label (codes "$e") refl _ c.in_err-expr-in-Ess.ensures.fault))

pub returns-in_err-expr-in-Axiom-clause-fault : goal.returns-in_err-expr-in-Axiom-clause-fault
returns-in_err-expr-in-Axiom-clause-fault c =
    let text = c.args.text.now in
    let label = c.args.label.now in
    let next : IsTokenAfter text c.args.at c.in-Some.keyword = subst (IsNextToken text c.args.at) c.in-Some.is c.in_ok-keyword.ensures.next in
    let has : AreTokensBetween text c.args.at c.in-Some.keyword.end (codes "$a" ∷ []) = between_as (ap (λ w. w ∷ []) (sym c.token_bytes.ensures ∙ c.in-Axiom.ensures)) next.between in
    let p = err_from_is_err_and c.from_residual-in_err-expr-in-Axiom.result c.from_residual-in_err-expr-in-Axiom.ensures.1 in
    rw (p.1, p.2) (fault_back text (label ∷ []) has _ (labelled_list text c.in-Some.keyword.end label c.requires.label (codes "$a") refl _ c.in_err-expr-in-Axiom.ensures.fault))

pub returns-in-Float-clause-found : goal.returns-in-Float-clause-found
returns-in-Float-clause-found c =
    let text = c.args.text.now in
    let next : IsTokenAfter text c.args.at c.in-Some.keyword = subst (IsNextToken text c.args.at) c.in-Some.is c.in_ok-keyword.ensures.next in
    let key : AreTokensBetween text c.args.at c.in-Some.keyword.end (codes "$f" ∷ []) = between_as (ap (λ w. w ∷ []) (sym c.token_bytes.ensures ∙ c.in-Float.ensures)) next.between in
    on_ok c.floating.result (λ r found from later has. found from (omega (arith, later, next.later)) (between_on has key)) c.floating.ensures.found

pub returns-in-Float-clause-fault : goal.returns-in-Float-clause-fault
returns-in-Float-clause-fault c =
    let text = c.args.text.now in
    let next : IsTokenAfter text c.args.at c.in-Some.keyword = subst (IsNextToken text c.args.at) c.in-Some.is c.in_ok-keyword.ensures.next in
    let key : AreTokensBetween text c.args.at c.in-Some.keyword.end (codes "$f" ∷ []) = between_as (ap (λ w. w ∷ []) (sym c.token_bytes.ensures ∙ c.in-Float.ensures)) next.between in
    on_err c.floating.result (λ fault is. fault_back text (c.args.label.now ∷ []) key fault is) c.floating.ensures.fault

pub returns-in_ok-label-in-Ess-clause-found : goal.returns-in_ok-label-in-Ess-clause-found
returns-in_ok-label-in-Ess-clause-found c = λ from later has.
    let text = c.args.text.now in
    let next : IsTokenAfter text c.args.at c.in-Some.keyword = subst (IsNextToken text c.args.at) c.in-Some.is c.in_ok-keyword.ensures.next in
    let key : AreTokensBetween text c.args.at c.in-Some.keyword.end (codes "$e" ∷ []) = between_as (ap (λ w. w ∷ []) (sym c.token_bytes.ensures ∙ c.in-Ess.ensures)) next.between in
    let list = c.in_ok-expr-in-Ess.ensures in
    essential_next c.in_ok-label-in-Ess.label c.args.label.now c.in_ok-label-in-Ess.ensures c.requires.label (omega (arith, later, next.later)) (between_on has key) list.between
    (are_symbols_of c.in_ok-expr-in-Ess.expr list.symbols list.many)

pub returns-in_ok-label-in-Axiom-clause-found : goal.returns-in_ok-label-in-Axiom-clause-found
returns-in_ok-label-in-Axiom-clause-found c = λ from later has.
    let text = c.args.text.now in
    let next : IsTokenAfter text c.args.at c.in-Some.keyword = subst (IsNextToken text c.args.at) c.in-Some.is c.in_ok-keyword.ensures.next in
    let key : AreTokensBetween text c.args.at c.in-Some.keyword.end (codes "$a" ∷ []) = between_as (ap (λ w. w ∷ []) (sym c.token_bytes.ensures ∙ c.in-Axiom.ensures)) next.between in
    let list = c.in_ok-expr-in-Axiom.ensures in
    axiom_next c.in_ok-label-in-Axiom.label c.args.label.now c.in_ok-label-in-Axiom.ensures c.requires.label (omega (arith, later, next.later)) (between_on has key) list.between
    (are_symbols_of c.in_ok-expr-in-Axiom.expr list.symbols list.many)

pub returns-in-Prove-clause-found : goal.returns-in-Prove-clause-found
returns-in-Prove-clause-found c =
    let text = c.args.text.now in
    let next : IsTokenAfter text c.args.at c.in-Some.keyword = subst (IsNextToken text c.args.at) c.in-Some.is c.in_ok-keyword.ensures.next in
    let key : AreTokensBetween text c.args.at c.in-Some.keyword.end (codes "$p" ∷ []) = between_as (ap (λ w. w ∷ []) (sym c.token_bytes.ensures ∙ c.in-Prove.ensures)) next.between in
    on_ok c.provable.result (λ r found from later has. found from (omega (arith, later, next.later)) (between_on has key)) c.provable.ensures.found

pub returns-in-Prove-clause-fault : goal.returns-in-Prove-clause-fault
returns-in-Prove-clause-fault c =
    let text = c.args.text.now in
    let next : IsTokenAfter text c.args.at c.in-Some.keyword = subst (IsNextToken text c.args.at) c.in-Some.is c.in_ok-keyword.ensures.next in
    let key : AreTokensBetween text c.args.at c.in-Some.keyword.end (codes "$p" ∷ []) = between_as (ap (λ w. w ∷ []) (sym c.token_bytes.ensures ∙ c.in-Prove.ensures)) next.between in
    on_err c.provable.result (λ fault is. fault_back text (c.args.label.now ∷ []) key fault is) c.provable.ensures.fault

pub returns-in_default-keyword_of : goal.returns-in_default-keyword_of
returns-in_default-keyword_of c =
    let text = c.args.text.now in
    let next : IsTokenAfter text c.args.at c.in-Some.keyword = subst (IsNextToken text c.args.at) c.in-Some.is c.in_ok-keyword.ensures.next in
    let stop = key_after_label c.keyword_of.result c.token_bytes.result.now c.keyword_of.ensures c.in_default-keyword_of.not-Float c.in_default-keyword_of.not-Ess c.in_default-keyword_of.not-Axiom
    c.in_default-keyword_of.not-Prove in record {
      found = tt;
      fault = label_before text c.args.at c.args.label.now c.requires.label _ next.between (ap (step labelled) (sym c.token_bytes.ensures) ∙ stop);
    }
