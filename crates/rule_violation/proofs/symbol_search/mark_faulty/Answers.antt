use Rattle.rule_violation.proofs.Words.{◌≡◌, ◌∙◌, ◌||◌, ◌&&◌, Bool, true, false, not, cond, sym, ap, refl, map, replicate, length, list_any, or-false, Name, active, marked, is_fault_if_absent, has_name_in, has_fault}
use Rattle.rule_violation.specs.declared.search.NameRole.TheVariants as name_role
use Rattle.rule_violation.specs.declared.symbol_search.SymbolFault.TheVariants as fault
use Rattle.rule_violation.proofs.MarksLemmas.{marked-once, marked-twice}
use Rattle.rule_violation.proofs.symbol_search.mark_faulty.Goals as goal

yes : (a : Bool) → cond a true false ≡ a
yes true = refl
yes false = refl

no : (a : Bool) → cond a false true ≡ not a
no true = refl
no false = refl

either : (a b : Bool) → cond a true (cond b true false) ≡ (a || b)
either true b = refl
either false b = yes b

neither : (a b : Bool) → cond a false (cond b false true) ≡ not (b || a)
neither true true = refl
neither true false = refl
neither false b = no b ∙ ap not (sym (or-false b))

but_not : (a b : Bool) → cond a false (cond b true false) ≡ (b && not a)
but_not true true = refl
but_not true false = refl
but_not false true = refl
but_not false false = refl

pub returns-in-AlreadyUsed : goal.returns-in-AlreadyUsed
returns-in-AlreadyUsed c =
    let S = c.args.earlier.now in let names = c.args.names.now in
    c.mark_earlier.ensures
    ∙ (marked-once (λ x. list_any (has_name_in name_role.LabelOrSymbol x) S) (has_fault S fault.AlreadyUsed) true false names c.args.marks.now
    (c.requires ∙ ap (λ t. replicate (length names) (is_fault_if_absent t)) c.in-AlreadyUsed.is) (λ x. yes (list_any (has_name_in name_role.LabelOrSymbol x) S))
    ∙ ap (λ t. map (has_fault S t) names) (sym c.in-AlreadyUsed.is))

pub returns-in-NotNewVariable : goal.returns-in-NotNewVariable
returns-in-NotNewVariable c =
    let S = c.args.earlier.now in let names = c.args.names.now in
    let one = λ (x : Name). list_any (λ p. has_name_in name_role.DeclaredVariable x p.1) (active S) in let other = λ (x : Name). list_any (has_name_in name_role.LabelOrConstant x) S in
    c.mark_active.ensures
    ∙ (ap (marked one true names) c.mark_earlier-in-NotNewVariable.ensures
    ∙ (marked-twice one other (has_fault S fault.NotNewVariable) true true false names c.args.marks.now
    (c.requires ∙ ap (λ t. replicate (length names) (is_fault_if_absent t)) c.in-NotNewVariable.is) (λ x. either (one x) (other x))
    ∙ ap (λ t. map (has_fault S t) names) (sym c.in-NotNewVariable.is)))

pub returns-in-Unknown : goal.returns-in-Unknown
returns-in-Unknown c =
    let S = c.args.earlier.now in let names = c.args.names.now in
    let one = λ (x : Name). list_any (λ p. has_name_in name_role.DeclaredVariable x p.1) (active S) in let other = λ (x : Name). list_any (has_name_in name_role.DeclaredConstant x) S in
    c.mark_active-in-Unknown.ensures
    ∙ (ap (marked one false names) c.mark_earlier-in-Unknown.ensures
    ∙ (marked-twice one other (has_fault S fault.Unknown) false false true names c.args.marks.now
    (c.requires ∙ ap (λ t. replicate (length names) (is_fault_if_absent t)) c.in-Unknown.is) (λ x. neither (one x) (other x))
    ∙ ap (λ t. map (has_fault S t) names) (sym c.in-Unknown.is)))

pub returns-in-NotActiveVariable : goal.returns-in-NotActiveVariable
returns-in-NotActiveVariable c =
    let S = c.args.earlier.now in let names = c.args.names.now in
    let one = λ (x : Name). list_any (λ p. has_name_in name_role.DeclaredVariable x p.1) (active S) in
    c.mark_active-in-NotActiveVariable.ensures
    ∙ (marked-once one (has_fault S fault.NotActiveVariable) false true names c.args.marks.now
    (c.requires ∙ ap (λ t. replicate (length names) (is_fault_if_absent t)) c.in-NotActiveVariable.is) (λ x. no (one x))
    ∙ ap (λ t. map (has_fault S t) names) (sym c.in-NotActiveVariable.is))

pub returns-in-Untyped : goal.returns-in-Untyped
returns-in-Untyped c =
    let S = c.args.earlier.now in let names = c.args.names.now in
    let one = λ (x : Name). list_any (λ p. has_name_in name_role.FloatVariable x p.1) (active S) in let other = λ (x : Name). list_any (λ p. has_name_in name_role.DeclaredVariable x p.1) (active S) in
    c.mark_active-in-Untyped-2.ensures
    ∙ (ap (marked one false names) c.mark_active-in-Untyped.ensures
    ∙ (marked-twice one other (has_fault S fault.Untyped) false true false names c.args.marks.now
    (c.requires ∙ ap (λ t. replicate (length names) (is_fault_if_absent t)) c.in-Untyped.is) (λ x. but_not (one x) (other x))
    ∙ ap (λ t. map (has_fault S t) names) (sym c.in-Untyped.is)))
