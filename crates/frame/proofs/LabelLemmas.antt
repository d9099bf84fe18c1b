-- The label of a stored statement.
use Rattle.frame.proofs.Words.{subst, ◌≡◌, ℕ, zero, suc, ◌<◌, true, false, List, [], ◌∷◌, slice_get, Some, None, refl, Name, label_of, name_at, decode, Entry, Kind, Float, is_labelled_kind, stmt_by, stmt_of, AreNumbered, IsLabelBelow}

pub label-below-at : (n m : ℕ) (es : List Entry) → AreNumbered n m es → (k : ℕ) (e : Entry) → slice_get es k ≡ Some e → IsLabelBelow e.kind e.label_count m
label-below-at n m [] h k e g = cc
label-below-at n m (d ∷ es) h zero e g = let same : d ≡ e = cc in subst (λ x. IsLabelBelow x.kind x.label_count m) same h.1
label-below-at n m (d ∷ es) h (suc k) e g = label-below-at n m es h.2 k e g

pub label-below : (kind : Kind) (label m : ℕ) → is_labelled_kind kind ≡ true → IsLabelBelow kind label m → label < m
label-below kind label m h b = b h

pub label-is : (names labels : List Name) (e : Entry) → is_labelled_kind e.kind ≡ true → label_of (stmt_of names labels e) ≡ Some (name_at labels e.label_count)
label-is names labels e = by e.kind
  where
    by : (kind : Kind) → is_labelled_kind kind ≡ true → label_of (stmt_by kind (name_at labels e.label_count) (decode names e.symbols)) ≡ Some (name_at labels e.label_count)
    by Float h = refl
    by kind h = cc

pub label-none : (names labels : List Name) (e : Entry) → is_labelled_kind e.kind ≡ false → label_of (stmt_of names labels e) ≡ None
label-none names labels e = by e.kind
  where
    by : (kind : Kind) → is_labelled_kind kind ≡ false → label_of (stmt_by kind (name_at labels e.label_count) (decode names e.symbols)) ≡ None
    by Float h = cc
    by kind h = cc
