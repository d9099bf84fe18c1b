use Rattle.frame.proofs.Words.{◌∙◌, ◌∷◌, [], ap, sym, subst, refl, Option, List, ℕ, Stmt, Expr, with_names, declared_symbols, AreRecorded, symbols_declared_by, symbols_in}
use Rattle.frame.proofs.symbol_numbers.find_numbers.Goals as goal

pub returns-in-Float : goal.returns-in-Float
returns-in-Float c =
    let N = declared_symbols c.args.numbering.now in
    let last = c.record_symbol-in-Float.new.recorded in
    let a = c.as_bytes.result.now in
    let none = subst (λ (o : Option (List ℕ)). AreRecorded N [] o) (sym c.begin.ensures) (refl, refl) in
    let both = c.record_symbol-in-Float.ensures (a ∷ []) (c.record_symbol.ensures [] none) in
    subst (λ (s : Stmt). AreRecorded (with_names N (symbols_declared_by s)) (symbols_in s) last) (sym c.in-Float.is)
    (subst (λ (xs : Expr). AreRecorded N xs last) (ap (λ x. x ∷ c.as_bytes-in-Float.result.now ∷ []) c.as_bytes.ensures.bytes ∙ ap (λ x. c.in-Float.constant ∷ x ∷ []) c.as_bytes-in-Float.ensures.bytes) both)
