-- Examples of frames.
use Rattle.frame.proofs.Words.{are_together, pairs_by, ◌≡◌, [], ◌∷◌, codes, refl, true, false, frame_of, is_pair, before, w, demo_before, demo_mp, demo, rows_front, row_ax, row_seven, row_th}
use Rattle.mm_read.specs.declared.stmt.Stmt.TheVariants.{Axiom}

-- `mp` has the `$f` of P and Q and both `$e`
mp_frame : frame_of demo_before demo_mp ≡ record { hypotheses = 6 ∷ 7 ∷ 15 ∷ 16 ∷ []; groups = []; conclusion = w (codes "|- Q") }
mp_frame = refl

-- `a1` has the `$f` of its three variables
a1_frame : frame_of (before demo 12) (Axiom (codes "a1") (w (codes "|- ( t = r -> ( t = s -> r = s ) )"))) ≡ record { hypotheses = 3 ∷ 4 ∷ 5 ∷ []; groups = []; conclusion = w (codes "|- ( t = r -> ( t = s -> r = s ) )") }
a1_frame = refl

-- `tze` has no mandatory hypotheses
tze_frame : frame_of (before demo 8) (Axiom (codes "tze") (w (codes "term 0"))) ≡ record { hypotheses = []; groups = []; conclusion = w (codes "term 0") }
tze_frame = refl

-- `ax` has the `$f` of x and y, and the two are a disjoint pair
ax_frame : frame_of rows_front row_ax ≡ record { hypotheses = 3 ∷ 4 ∷ []; groups = w (codes "x y") ∷ []; conclusion = w (codes "|- x R y") }
ax_frame = refl

-- the dummy variable z is not in the frame of `th`
th_frame : frame_of row_seven row_th ≡ record { hypotheses = 3 ∷ []; groups = []; conclusion = w (codes "|- R x") }
th_frame = refl

-- a pair is symmetric
ax_pair : is_pair rows_front (codes "y") (codes "x") ≡ true
ax_pair = refl

-- x is not a pair with itself
no_pair_with_itself : is_pair rows_front (codes "x") (codes "x") ≡ false
no_pair_with_itself = refl

-- the `$d` of a closed block is no longer active
th_pairs : is_pair row_seven (codes "x") (codes "y") ≡ false
th_pairs = refl

-- the `$d` of the open block makes the dummy variable z and x disjoint
th_dummy : is_pair row_seven (codes "z") (codes "x") ≡ true
th_dummy = refl

-- of 1, 2 and 3, all pairs but that of 1 and 3, by two lists
three_lists : pairs_by (are_together ((1 ∷ 2 ∷ []) ∷ (3 ∷ 2 ∷ []) ∷ (1 ∷ 2 ∷ []) ∷ [])) (1 ∷ 2 ∷ 3 ∷ []) ≡ (2 ∷ 1 ∷ []) ∷ (3 ∷ 2 ∷ []) ∷ []
three_lists = refl
