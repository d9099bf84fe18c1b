-- Where runs of bytes that are not allowed begin, byte by byte.
use Rattle.places.proofs.Words.{◌≡◌, ℕ, ◌+◌, ◌<◌, suc, Bool, true, false, not, cond, List, [], ◌∷◌, ◌++◌, length, get_or, ap, sym, ◌∙◌, arith, append_assoc, drop-cons}
use Rattle.std.proofs.Common.{drop}
use Rattle.mm_lex.specs.Alphabet.{is_allowed}
use Rattle.places.specs.RefusedBytes.{refused_runs, with_run}

step-on : (offsets bytes whole : List ℕ) (at b : ℕ) (inside allowed : Bool) → is_allowed b ≡ allowed → offsets ++ refused_runs at inside (b ∷ bytes) ≡ whole
    → with_run offsets at inside (not allowed) ++ refused_runs (at + 1) (not allowed) bytes ≡ whole
step-on offsets bytes whole at b inside true is same =
    ap (λ t. offsets ++ cond t (refused_runs (at + 1) false bytes) (cond inside (refused_runs (at + 1) true bytes) (at ∷ refused_runs (at + 1) true bytes))) (sym is) ∙ same
step-on offsets bytes whole at b true false is same =
    ap (λ t. offsets ++ cond t (refused_runs (at + 1) false bytes) (refused_runs (at + 1) true bytes)) (sym is) ∙ same
step-on offsets bytes whole at b false false is same =
    append_assoc offsets (at ∷ []) (refused_runs (at + 1) true bytes)
    ∙ (ap (λ t. offsets ++ cond t (refused_runs (at + 1) false bytes) (at ∷ refused_runs (at + 1) true bytes)) (sym is) ∙ same)

pub run-step : (text offsets whole : List ℕ) (at : ℕ) (inside allowed : Bool) → at < length text → allowed ≡ is_allowed (get_or text at 0)
    → offsets ++ refused_runs at inside (drop at text) ≡ whole
    → with_run offsets at inside (not allowed) ++ refused_runs (at + 1) (not allowed) (drop (at + 1) text) ≡ whole
run-step text offsets whole at inside allowed h is same =
    let on : suc at ≡ at + 1 = omega arith in
    let rest : drop at text ≡ get_or text at 0 ∷ drop (at + 1) text = drop-cons text at 0 h ∙ ap (λ n. get_or text at 0 ∷ drop n text) on in
    step-on offsets (drop (at + 1) text) whole at (get_or text at 0) inside allowed (sym is) (ap (λ r. offsets ++ refused_runs at inside r) (sym rest) ∙ same)
