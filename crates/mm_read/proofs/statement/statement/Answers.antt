use Rattle.mm_read.proofs.Words.{◌∙◌, ap, sym, refl, arith, codes, ◌∷◌, [], err_from_is_err_and, and_from, between_as, Const, Var, Disj}
use Rattle.mm_read.proofs.StatementsLemmas.{are_symbols_of, has_two_of}
use Rattle.mm_read.proofs.ReaderStates.{between, step}
use Rattle.mm_read.proofs.PartFaults.{key_in_front, other_in_front}
use Rattle.mm_read.proofs.AfterFaults.{keyed_list, first_misfit}
use Rattle.mm_read.proofs.NextLemmas.{keyed_next, on_ok}
use Rattle.mm_read.proofs.statement.statement.Goals as goal
use Rattle.mm_read.proofs.statement.statement.Goals.{in_default-via-in-Other+else-is_label, in_default-via-in_default}

pub returns-in_err-constants-in-Const-clause-fault : goal.returns-in_err-constants-in-Const-clause-fault
returns-in_err-constants-in-Const-clause-fault c =
    let p = err_from_is_err_and c.from_residual.result c.from_residual.ensures.1 in
    rw (p.1, p.2) (keyed_list c.args.text.now c.args.first.end _ (codes "$c") 1 (sym c.token_bytes-word.ensures ∙ c.in-Const.ensures) refl _ c.in_err-constants-in-Const.ensures.fault)

pub returns-in_err-variables-in-Var-clause-fault : goal.returns-in_err-variables-in-Var-clause-fault
returns-in_err-variables-in-Var-clause-fault c =
    let p = err_from_is_err_and c.from_residual-in_err-variables-in-Var.result c.from_residual-in_err-variables-in-Var.ensures.1 in
    rw (p.1, p.2) (keyed_list c.args.text.now c.args.first.end _ (codes "$v") 1 (sym c.token_bytes-word.ensures ∙ c.in-Var.ensures) refl _ c.in_err-variables-in-Var.ensures.fault)

pub returns-in_err-variables-in-Disj-clause-fault : goal.returns-in_err-variables-in-Disj-clause-fault
returns-in_err-variables-in-Disj-clause-fault c =
    let p = err_from_is_err_and c.from_residual-in_err-variables-in-Disj.result c.from_residual-in_err-variables-in-Disj.ensures.1 in
    rw (p.1, p.2) (keyed_list c.args.text.now c.args.first.end _ (codes "$d") 2 (sym c.token_bytes-word.ensures ∙ c.in-Disj.ensures) refl _ c.in_err-variables-in-Disj.ensures.fault)

pub returns-in_ok-constants-in-Const-clause-found : goal.returns-in_ok-constants-in-Const-clause-found
returns-in_ok-constants-in-Const-clause-found c = λ from later has.
    let list = c.in_ok-constants-in-Const.ensures in
    let ws = c.in_ok-constants-in-Const.constants in
    keyed_next (codes "$c") (sym c.token_bytes-word.ensures ∙ c.in-Const.ensures) later has list.between (Const ws) refl (are_symbols_of ws list.symbols list.many)

pub returns-in_ok-variables-in-Var-clause-found : goal.returns-in_ok-variables-in-Var-clause-found
returns-in_ok-variables-in-Var-clause-found c = λ from later has.
    let list = c.in_ok-variables-in-Var.ensures in
    let ws = c.in_ok-variables-in-Var.variables in
    keyed_next (codes "$v") (sym c.token_bytes-word.ensures ∙ c.in-Var.ensures) later has list.between (Var ws) refl (are_symbols_of ws list.symbols list.many)

pub returns-in_ok-variables-in-Disj-clause-found : goal.returns-in_ok-variables-in-Disj-clause-found
returns-in_ok-variables-in-Disj-clause-found c = λ from later has.
    let list = c.in_ok-variables-in-Disj.ensures in
    let ws = c.in_ok-variables-in-Disj.variables in
    keyed_next (codes "$d") (sym c.token_bytes-word.ensures ∙ c.in-Disj.ensures) later has list.between (Disj ws) refl
    (and_from _ _ (are_symbols_of ws list.symbols (omega (arith, list.many))) (has_two_of ws list.many))

pub returns-in-Other-clause-found : goal.returns-in-Other-clause-found
returns-in-Other-clause-found c =
    on_ok c.labelled.result (λ r found from later has. found from later (between_as (ap (λ w. w ∷ []) (sym c.token_bytes-word.ensures)) has)) c.labelled.ensures.found

pub returns-in_default-clause-fault : goal.returns-in_default-clause-fault
returns-in_default-clause-fault c =
    let text = c.args.text.now in
    elim c.in_default.branch [
      | in_default-via-in-Other+else-is_label w ↦
          first_misfit text c.args.first.end _ (ap (step between) (sym c.token_bytes-word.ensures) ∙ other_in_front c.token_bytes-word.result.now w.in-Other.ensures (sym w.if-is_label.ensures))
      | in_default-via-in_default w ↦
          first_misfit text c.args.first.end _ (ap (step between) (sym c.token_bytes-word.ensures)
          ∙ key_in_front c.keyword_of.result c.token_bytes-word.result.now c.keyword_of.ensures w.in_default.not-Open w.in_default.not-Close w.in_default.not-Const w.in_default.not-Var w.in_default.not-Disj
          (λ e. absurd (w.in_default.not-Other e)))
    ]
