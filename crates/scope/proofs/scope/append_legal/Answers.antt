use Rattle.scope.proofs.Words.{◌∙◌, ap, sym, subst, length, take, ◌++◌, ◌∷◌, [], ◌+◌, Option, List, ℕ, bare, Declared, IsNumberingOf, as_frame_statement, frame_statements_of, IsRecordedBy, AreRecorded, symbols_after, symbols_in, AreNumbers, AreVariableNumbers, Name, Stmt, Open, Close, Const, Var, Disj, Float, Ess, Axiom, Prove}
use Rattle.scope.proofs.BareLemmas.{declared_with-bare, legal-bare}
use Rattle.scope.proofs.DeclaredLemmas.{may-declare, numbering-after, recorded-after}
use Rattle.scope.proofs.FrameStatementLemmas.{frame_statements-after, stands-bare}
use Rattle.scope.proofs.scope.append_legal.Goals as goal

pub declare_names-requires : goal.declare_names-requires
declare_names-requires c = may-declare c.args.rules.now.statements c.args.stmt.now c.args.names.now c.requires.legal c.requires.numbering.kinds_match

-- the numbers of all symbols of a statement are the numbers that are required
asked : (symbols : List Name) (s : Stmt) (numbers : List ℕ) → AreNumbers symbols (symbols_in s) numbers → AreVariableNumbers symbols s numbers
asked symbols (Var xs) numbers are = are
asked symbols (Float label constant variable) numbers are = are
asked symbols Open numbers are = tt
asked symbols Close numbers are = tt
asked symbols (Const xs) numbers are = tt
asked symbols (Disj xs) numbers are = tt
asked symbols (Ess label expr) numbers are = tt
asked symbols (Axiom label expr) numbers are = tt
asked symbols (Prove label expr proof) numbers are = tt

pub accept-requires-clause-numbers : goal.accept-requires-clause-numbers
accept-requires-clause-numbers c =
    let S = c.args.rules.now.statements in let s = c.args.stmt.now in
    asked (symbols_after S s) s c.in-Some.numbers.now (subst (λ (o : Option (List ℕ)). AreRecorded (symbols_after S s) (symbols_in s) o) c.in-Some.ensures.numbers
    (recorded-after S s c.args.names.now c.args.recorded.now c.declare_names.new.recorded c.requires.legal c.requires.numbering
    (subst (λ (names : Declared). IsRecordedBy names s c.args.recorded.now c.declare_names.new.recorded) c.in_ok-declare_names.ensures.names c.in_ok-declare_names.ensures.recorded) c.requires.recorded))

pub returns-clause-numbering : goal.returns-clause-numbering
returns-clause-numbering c =
    let S = c.args.rules.now.statements in let s = c.args.stmt.now in
    subst (λ (names : Declared). IsNumberingOf (S ++ bare s ∷ []) names) (declared_with-bare c.args.names.now s ∙ sym c.in_ok-declare_names.ensures.names) (numbering-after S (bare s) c.args.names.now (legal-bare S s c.requires.legal) c.requires.numbering)

pub returns-clause-frame_statements : goal.returns-clause-frame_statements
returns-clause-frame_statements c =
    let S = c.args.rules.now.statements in let s = c.args.stmt.now in
    c.truncate.ensures.items
    ∙ (ap (λ st. take c.frame_statement_count.result st) (c.in_ok-push_frame_statement.ensures.ok ∙ (ap (λ st. st ++ as_frame_statement c.args.at s) c.requires.frame_statements ∙ ap (λ at. frame_statements_of S ++ as_frame_statement at s) c.requires.at))
    ∙ (ap (λ n. take n (frame_statements_of S ++ as_frame_statement (length S + 1) s)) (c.frame_statement_count.ensures ∙ ap (λ D. length (frame_statements_of D)) c.in_ok-accept-in-Some.ensures.ok)
    ∙ (ap (λ st. take (length (frame_statements_of (S ++ bare s ∷ []))) (frame_statements_of S ++ st)) (sym (stands-bare (length S + 1) s)) ∙ frame_statements-after S (bare s))))
