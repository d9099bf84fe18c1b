use Rattle.verify.proofs.Words.{◌≡◌, ℕ, ◌↔◌, ◌∷◌, [], List, length, map, get_or, IsTrue, Bool, arith, sym, ap, ◌∙◌, symbols_in, SymbolRange, bytes_eq, bytes_eq-Decides}
use Rattle.verify.proofs.results.Results.is_only.Goals as goal

only_iff : (xs ds r e : List ℕ) (stack : List SymbolRange) (all : List (List ℕ)) (p : SymbolRange) (b : Bool) → length stack ≡ 1 → p ≡ get_or stack 0 p → r ≡ symbols_in ds p → ds ≡ xs → map (symbols_in xs) stack ≡ all → b ≡ bytes_eq r e
    → IsTrue b ↔ (all ≡ e ∷ [])
only_iff xs ds r e [] all p b l at q d v t = absurd (omega (arith, l))
only_iff xs ds r e (x ∷ y ∷ stack) all p b l at q d v t = absurd (omega (arith, l))
only_iff xs ds r e (x ∷ []) all p b l at q d v t =
    let same : symbols_in xs x ≡ r = ap (symbols_in xs) (sym at) ∙ (ap (λ s. symbols_in s p) (sym d) ∙ sym q) in (
      λ h. sym v ∙ ap (λ s. s ∷ []) (same ∙ (bytes_eq-Decides r e).0 (sym t ∙ h)),
      λ h. let f : symbols_in xs x ∷ [] ≡ e ∷ [] = v ∙ h in let k : symbols_in xs x ≡ e = cc in t ∙ (bytes_eq-Decides r e).1 (sym same ∙ k),
    )

pub returns-clause-only : goal.returns-clause-only
returns-clause-only c = only_iff c.self.inside.symbols c.as_slice.result.now c.symbols_at.result.now c.args.expr.now c.self.inside.stack.items c.args.self.now.results.stack c.index-place.result.now c.eq.result (omega (arith, c.if-len-ne1.false, c.len.ensures)) c.index-place.ensures c.symbols_at.ensures c.as_slice.ensures.symbols (ap (λ v. v.results.stack) c.self.view_is) c.eq.ensures
