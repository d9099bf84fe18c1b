use Rattle.subst.proofs.Words.{◌≡◌, ℕ, ◌<◌, ◌≤◌, Option, Some, None, IfSome, IfNone, true, false, length, arith, refl, sym, ◌∙◌, code_apply, is_some}
use Rattle.subst.proofs.images.has_room.Goals as goal

fits : (r : Option ℕ) (size room : ℕ) → IfSome r (λ len. (len ≡ size) × (len ≤ room)) → IfNone r (room < size) → (is_some r ≡ true → size ≤ room) × (size ≤ room → is_some r ≡ true)
fits None size room some none = (λ h. let e : false ≡ true = h in cc, λ h. absurd (omega (arith, h, none)))
fits (Some len) size room some none = (λ h. omega (arith, some.0, some.1), λ h. refl)

pub returns : goal.returns
returns c =
    let read = rw (c.as_slice.ensures.symbols, c.subst.view_is) at c.applied_len.ensures in
    let k = fits c.applied_len.result (length (code_apply c.args.subst.now c.args.expr.now)) _ read.some read.none in
    (λ h. let e = k.0 (sym c.is_some.ensures ∙ h) in omega (arith, e, c.len-room.ensures.len, c.len-room.ensures.bound), λ h. c.is_some.ensures ∙ k.1 (omega (arith, h, c.len-room.ensures.len, c.len-room.ensures.bound)))
