-- Copying and writing symbols within one buffer.
use Rattle.subst.proofs.Words.{◌≡◌, ℕ, ◌+◌, ◌-◌, ◌<◌, ◌≤◌, min, List, ◌++◌, length, take, drop, get_or, sym, ◌∙◌, ap, subst, arith, length-append, append-nil, take_all, drop_all, append_assoc, take-add, length-take-le, take-take, drop-drop, drop-take, take-append-add, take-append_seam, take_more_put_chunk, length-chunk, chunk, put_chunk, code_image, code_apply, SymbolRange, symbols_in, images_at, AreInside, IsWritten}
use Rattle.subst.proofs.WrittenImages.{apply-take, len-take, len-within}
use Rattle.subst.proofs.SymbolRangeLemmas.{length-seen}
use Rattle.subst.proofs.ImageRangesLemmas.{image-more}

-- two lists whose first symbols are the same have the same ranges among them
range-same : (x y : List ℕ) (at from k : ℕ) → take at x ≡ take at y → from + k ≤ at → take k (drop from x) ≡ take k (drop from y)
range-same x y at from k e h = range x ∙ (ap (λ s. drop from (take (from + k) s)) e ∙ sym (range y))
  where
    range : (s : List ℕ) → take k (drop from s) ≡ drop from (take (from + k) (take at s))
    range s = sym (drop-take from k s) ∙ ap (drop from) (sym (take-take (from + k) at s h))

-- another block of 16 symbols is copied
pub copy-on : (x x0 x' : List ℕ) (from len at done : ℕ) → from + len ≤ at → at + len + 16 ≤ length x → done ≤ len
    → take (at + min done len) x ≡ take at x0 ++ take (min done len) (drop from x0) → at ≤ length x0 → x' ≡ put_chunk (at + done) x (chunk (from + done) 16 x)
    → take (at + min (done + 16) len) x' ≡ take at x0 ++ take (min (done + 16) len) (drop from x0)
copy-on x x0 x' from len at done before room more sofar long put =
    let m : min done len ≡ done = omega (arith, more) in
    let sofar' : take (at + done) x ≡ take at x0 ++ take done (drop from x0) = subst (λ n. take (at + n) x ≡ take at x0 ++ take n (drop from x0)) m sofar in
    let k : ℕ = min (done + 16) len - done in
    let few : k ≤ 16 = omega (arith, more) in
    let whole : min (done + 16) len ≡ done + k = omega (arith, more) in
    let inside : from + done + k ≤ at = omega (arith, before, whole) in
    let c : List ℕ = chunk (from + done) 16 x in
    let c_long : length c ≡ 16 = length-chunk (from + done) 16 x (omega (arith, before, room, more)) in
    let grown : take (at + done + 16) x' ≡ take (at + done) x ++ c = ap (take (at + done + 16)) put ∙ take_more_put_chunk (at + done) x c (at + done + 16) (omega (arith, c_long)) (omega (arith, room, more)) in
    let front : take at x ≡ take at x0 =
    sym (take-take at (at + done) x (omega arith)) ∙ (ap (take at) sofar' ∙ (ap (λ n. take n (take at x0 ++ take done (drop from x0))) (sym (length-take-le at x0 long)) ∙ take-append_seam (take at x0) (take done (drop from x0)))) in
    let piece : take k c ≡ take k (drop (from + done) x0) = take-take k 16 (drop (from + done) x) few ∙ range-same x x0 at (from + done) k front inside in
    let seam : length (take (at + done) x) ≡ at + done = length-take-le (at + done) x (omega (arith, room, more)) in
    ap (λ n. take (at + n) x') whole
    ∙ (ap (λ n. take n x') (let e : at + (done + k) ≡ at + done + k = omega arith in e)
    ∙ (sym (take-take (at + done + k) (at + done + 16) x' (omega (arith, few)))
    ∙ (ap (take (at + done + k)) grown
    ∙ (ap (λ n. take (n + k) (take (at + done) x ++ c)) (sym seam)
    ∙ (take-append-add (take (at + done) x) c k
    ∙ (ap (λ s. s ++ take k c) sofar'
    ∙ (append_assoc (take at x0) (take done (drop from x0)) (take k c)
    ∙ ap (λ s. take at x0 ++ s)
    (ap (λ s. take done (drop from x0) ++ s) (piece ∙ ap (take k) (sym (drop-drop done from x0)))
    ∙ (sym (take-add done k (drop from x0)) ∙ ap (λ n. take n (drop from x0)) (sym whole))))))))))

pub copy-first : (x : List ℕ) (from len at : ℕ) → from + len ≤ at → at + len + 16 ≤ length x
    → take (at + min 16 len) (put_chunk at x (chunk from 16 x)) ≡ take at x ++ take (min 16 len) (drop from x)
copy-first x from len at before room =
    let here : at ≡ at + 0 = omega arith in
    let there : from ≡ from + 0 = omega arith in
    let none : min 0 len ≡ 0 = omega arith in
    copy-on x x _ from len at 0 before room (omega arith)
    (subst (λ n. take (at + n) x ≡ take at x ++ take n (drop from x)) (sym none) (ap (λ n. take n x) (sym here) ∙ sym (append-nil (take at x))))
    (omega (arith, room)) (ap (λ n. put_chunk n x (chunk from 16 x)) here ∙ ap (λ n. put_chunk (at + 0) x (chunk n 16 x)) there)

-- copying as many symbols as a range has, from its start, writes the symbols of the range
pub place-written : (x y : List ℕ) (at len : ℕ) (p : SymbolRange) → p.start ≤ p.end → p.end ≤ at → at ≤ length x → len ≡ p.end - p.start → at + len ≤ length y
    → take (at + len) y ≡ take at x ++ take len (drop p.start x) → IsWritten x y at (symbols_in (take at x) p) (at + len)
place-written x y at len p low high long e room copied =
    let seam : length (take at x) ≡ at = length-take-le at x long in
    let size : length (symbols_in (take at x) p) ≡ p.end - p.start = length-seen (take at x) p low (omega (arith, high, seam)) in
    record {
      written = copied ∙ ap (λ s. take at x ++ s) (ap (λ n. take n (drop p.start x)) e ∙ range-same x (take at x) at p.start (p.end - p.start) (sym (take-take at at x (omega arith))) (omega (arith, low, high)));
      moved = omega (arith, size, e);
      inside = room;
    }

pub place-lacks : (x : List ℕ) (at last : ℕ) (p : SymbolRange) → p.start ≤ p.end → p.end ≤ at → at ≤ length x → last < at + (p.end - p.start) → last < at + length (symbols_in (take at x) p)
place-lacks x at last p low high long less =
    let seam : length (take at x) ≡ at = length-take-le at x long in
    let size : length (symbols_in (take at x) p) ≡ p.end - p.start = length-seen (take at x) p low (omega (arith, high, seam)) in
    omega (arith, size, less)

-- the symbols before `at` stay as they are
pub written-kept : (x y e : List ℕ) (at end : ℕ) → at ≤ length x → IsWritten x y at e end → take at y ≡ take at x
written-kept x y e at end long w =
    let moved = w.moved in
    sym (take-take at end y (omega (arith, moved)))
    ∙ (ap (take at) w.written ∙ (ap (λ n. take n (take at x ++ e)) (sym (length-take-le at x long)) ∙ take-append_seam (take at x) e))

pub kept-on : (x0 x y : List ℕ) (at end : ℕ) → at ≤ end → take end y ≡ take end x → take at x ≡ take at x0 → take at y ≡ take at x0
kept-on x0 x y at end h e f = sym (take-take at end y h) ∙ (ap (take at) e ∙ (take-take at end x h ∙ f))

-- a vector whose whole slice was written is that slice
pub whole : (n : ℕ) (s d items : List ℕ) → d ≡ items → length d ≡ n → length s ≡ length d → take n (s ++ drop (length s) items) ≡ s
whole n s d items same long count =
    let size = ap length same in
    ap (λ r. take n (s ++ r)) (drop_all (length s) items (omega (arith, size, count))) ∙ (ap (take n) (append-nil s) ∙ take_all n s (omega (arith, count, long)))

-- if the slice still has the first symbols, so has the vector
pub slice-kept : (n at : ℕ) (s d items now : List ℕ) → d ≡ items → length d ≡ n → length s ≡ length d → take at d ≡ now → take at s ≡ take at d → take at (take n (s ++ drop (length s) items)) ≡ now
slice-kept n at s d items now same long count seen kept = ap (take at) (whole n s d items same long count) ∙ (kept ∙ seen)

pub slice-filled : (n at end : ℕ) (s d items now : List ℕ) (ps : List (ℕ × SymbolRange)) (t : List ℕ) → d ≡ items → length d ≡ n → length s ≡ length d → take at d ≡ now
    → IsWritten d s at (code_apply (images_at (take at d) ps) t) end
    → (take end (take n (s ++ drop (length s) items)) ≡ now ++ code_apply (images_at now ps) t) × (end ≡ at + length (code_apply (images_at now ps) t))
slice-filled n at end s d items now ps t same long count seen w = (
  ap (take end) (whole n s d items same long count) ∙ (w.written ∙ ap (λ x. x ++ code_apply (images_at x ps) t) seen),
  w.moved ∙ ap (λ x. at + length (code_apply (images_at x ps) t)) seen,
)

-- the image of the next symbol is written
pub fill-on : (x0 x x' image : List ℕ) (ps : List (ℕ × SymbolRange)) (t : List ℕ) (i at end e : ℕ) → AreInside at ps → at ≤ length x0 → i < length t
    → IsWritten x0 x at (code_apply (images_at (take at x0) ps) (take i t)) end
    → code_image (images_at (take end x) ps) (get_or t i 0) ≡ image → IsWritten x x' end image e
    → IsWritten x0 x' at (code_apply (images_at (take at x0) ps) (take (i + 1) t)) e
fill-on x0 x x' image ps t i at end e within long more w is v =
    let seam : length (take at x0) ≡ at = length-take-le at x0 long in
    let σ = images_at (take at x0) ps in
    let n = get_or t i 0 in
    let front = code_apply σ (take i t) in
    let same : code_image (images_at (take end x) ps) n ≡ code_image σ n
    = ap (λ s. code_image (images_at s ps) n) w.written ∙ image-more (take at x0) front ps n (subst (λ m. AreInside m ps) (sym seam) within) in
    let next : List ℕ = code_apply σ (take (i + 1) t) in
    let whole : take e x' ≡ take at x0 ++ next
    = v.written ∙ (ap (λ s. s ++ image) w.written ∙ (append_assoc (take at x0) front image
    ∙ ap (λ s. take at x0 ++ s) (ap (λ s. front ++ s) (sym is ∙ same) ∙ sym (apply-take σ t i more)))) in
    let inside = v.inside in
    let size = length-take-le e x' inside in
    record { written = whole; moved = omega (arith, ap length whole, length-append (take at x0) next, seam, size); inside = inside }

pub fill-lacks : (x0 x image : List ℕ) (ps : List (ℕ × SymbolRange)) (t : List ℕ) (i at end last : ℕ) → AreInside at ps → at ≤ length x0 → i < length t
    → IsWritten x0 x at (code_apply (images_at (take at x0) ps) (take i t)) end
    → code_image (images_at (take end x) ps) (get_or t i 0) ≡ image → last < end + length image
    → last < at + length (code_apply (images_at (take at x0) ps) t)
fill-lacks x0 x image ps t i at end last within long more w is lacks =
    let seam : length (take at x0) ≡ at = length-take-le at x0 long in
    let σ = images_at (take at x0) ps in
    let n = get_or t i 0 in
    let image_same : length image ≡ length (code_image σ n)
    = ap length (sym is ∙ (ap (λ s. code_image (images_at s ps) n) w.written ∙ image-more (take at x0) (code_apply σ (take i t)) ps n (subst (λ m. AreInside m ps) (sym seam) within))) in
    let moved = w.moved in
    let longer = len-within σ t (i + 1) in
    let one = len-take σ t i more in
    omega (arith, lacks, moved, longer, one, image_same)
