-- The table of the bytes, and the value that it gives for a byte and the digits before it.
use Rattle.proof_code.proofs.Words.{◌≡◌, ℕ, ◌+◌, ◌-◌, ◌*◌, ◌<◌, ◌≤◌, true, false, cond, ◌==◌, [], refl, sym, ◌∙◌, ap, arith, map, get_or, range_with_len, get_or-map-range_with_len, cases_Bool, inl, inr, eqb-true, nat_tests, is_leading, is_last, value_after, ends_number, digits_after, limit_after, ◌%◌, ◌^◌, bit_and, and_le_r, and_mask, ByteStep, STEPS}
use Rattle.proof_code.proofs.LettersLemmas.{first_bounds, last_bounds}

-- the kind of a byte, as a property may depend on it
pub by_kind : (P : Type 0) (byte : ℕ)
    → (is_leading byte ≡ true → P)
    → (is_leading byte ≡ false → is_last byte ≡ true → P)
    → (byte ≡ 32 → P)
    → (byte ≡ 90 → P)
    → (is_leading byte ≡ false → is_last byte ≡ false → (byte == 32) ≡ false → (byte == 90) ≡ false → P) → P
by_kind P byte first last space mark other = elim (cases_Bool (is_leading byte)) [
  | inl f ↦ first f
  | inr f ↦ elim (cases_Bool (is_last byte)) [
    | inl l ↦ last f l
    | inr l ↦ elim (cases_Bool (byte == 32)) [
      | inl s ↦ space (eqb-true byte 32 s)
      | inr s ↦ elim (cases_Bool (byte == 90)) [
        | inl m ↦ mark (eqb-true byte 90 m)
        | inr m ↦ other f l s m
      ]
    ]
  ]
]

-- ---- the columns of the table

-- one number for each kind of byte
abbrev of_kind : ℕ → ℕ → ℕ → ℕ → ℕ → ℕ → ℕ
of_kind first last space mark other byte = cond (is_leading byte) first (cond (is_last byte) last (cond (byte == 32) space (cond (byte == 90) mark other)))

abbrev factor_of : ℕ → ℕ
factor_of byte = of_kind 5 20 1 (2 ^ 64 - 1) 0 byte

abbrev added_of : ℕ → ℕ
added_of byte = of_kind (byte - 84) (byte - 64) 0 0 (2 ^ 64 - 1) byte

abbrev mask_of : ℕ → ℕ
mask_of byte = cond (ends_number byte) 0 (2 ^ 64 - 1)

-- two functions that agree on all bytes
agree : (f g : ℕ → ℕ) → map f (range_with_len 0 256) ≡ map g (range_with_len 0 256) → (byte : ℕ) → byte < 256 → f byte ≡ g byte
agree f g same byte few =
    sym (get_or-map-range_with_len f 0 256 byte byte 0 few (omega arith)) ∙ (ap (λ xs. get_or xs byte 0) same ∙ get_or-map-range_with_len g 0 256 byte byte 0 few (omega arith))

-- the row of a byte, or zeros outside the table
abbrev pub step : ℕ → ByteStep
step byte = get_or STEPS byte (record { factor = 0; added = 0; mask = 0; ends = 0; marks = 0; unused = [] })

factors : map (λ byte. (step byte).factor) (range_with_len 0 256) ≡ map factor_of (range_with_len 0 256)
factors = refl

addends : map (λ byte. (step byte).added) (range_with_len 0 256) ≡ map added_of (range_with_len 0 256)
addends = refl

masks : map (λ byte. (step byte).mask) (range_with_len 0 256) ≡ map mask_of (range_with_len 0 256)
masks = refl

ends : map (λ byte. (step byte).ends) (range_with_len 0 256) ≡ map (λ byte. cond (ends_number byte) 1 0) (range_with_len 0 256)
ends = refl

marks : map (λ byte. (step byte).marks) (range_with_len 0 256) ≡ map (λ byte. cond (byte == 90) 1 0) (range_with_len 0 256)
marks = refl

-- how many numbers a byte ends
ends-is : (byte : ℕ) → byte < 256 → (step byte).ends ≡ cond (ends_number byte) 1 0
ends-is byte few = agree (λ byte. (step byte).ends) (λ byte. cond (ends_number byte) 1 0) ends byte few

-- the limit after a byte
marks-is : (limit byte : ℕ) → byte < 256 → (limit + (step byte).marks ≡ limit_after limit byte) × (limit + (step byte).marks ≤ limit + 1)
marks-is limit byte few =
    rw (agree (λ byte. (step byte).marks) (λ byte. cond (byte == 90) 1 0) marks byte few)
    (elim (cases_Bool (byte == 90)) [
      | inl e ↦ rw e (refl, omega arith)
      | inr e ↦ rw e (omega arith, omega arith)
    ])

-- the digits after a byte
mask-is : (value byte : ℕ) → byte < 256 → value < 2 ^ 64 → bit_and value (step byte).mask ≡ digits_after byte value
mask-is value byte few small =
    rw (agree (λ byte. (step byte).mask) mask_of masks byte few)
    (elim (cases_Bool (ends_number byte)) [
      | inl e ↦ rw e (omega (arith, and_le_r value 0))
      | inr e ↦ rw e (and_mask value 64 ∙ omega (arith, small))
    ])

-- the value of the digits with a byte
value-of : (digits byte : ℕ) → 20 * digits + 26 < 2 ^ 64 → ((digits * factor_of byte) % 2 ^ 64 + added_of byte ≡ value_after digits byte) × (value_after digits byte < 2 ^ 64)
value-of digits byte small =
    by_kind (((digits * factor_of byte) % 2 ^ 64 + added_of byte ≡ value_after digits byte) × (value_after digits byte < 2 ^ 64)) byte
    (λ f. let bounds = first_bounds byte f in rw f (omega (arith, small, bounds), omega (arith, small, bounds)))
    (λ f l. let bounds = last_bounds byte l in rw (f, l) (omega (arith, small, bounds), omega (arith, small, bounds)))
    (λ e. rw e (omega (arith, small), omega (arith, small)))
    (λ e. rw e (elim (cases_Bool (digits == 0)) [
      | inl z ↦ let none : digits ≡ 0 = eqb-true digits 0 z in rw none (refl, omega arith)
      | inr z ↦ let some : 1 ≤ digits = grind (arith, nat_tests) in rw z (omega (arith, some, small), omega (arith, some))
    ]))
    (λ f l s m. rw (f, l, s, m) (omega arith, omega arith))

value-is : (digits byte : ℕ) → byte < 256 → 20 * digits + 26 < 2 ^ 64
    → ((digits * (step byte).factor) % 2 ^ 64 + (step byte).added ≡ value_after digits byte) × (value_after digits byte < 2 ^ 64)
value-is digits byte few small =
    rw (agree (λ byte. (step byte).factor) factor_of factors byte few, agree (λ byte. (step byte).added) added_of addends byte few) (value-of digits byte small)

-- the row at a place that is that of a byte
module _ (byte at : ℕ) (few : byte < 256) (is : at ≡ byte) where
  pub value-at : (digits : ℕ) → 20 * digits + 26 < 2 ^ 64
      → ((digits * (step at).factor) % 2 ^ 64 + (step at).added ≡ value_after digits byte) × (value_after digits byte < 2 ^ 64)
  value-at digits small = rw is (value-is digits byte few small)

  pub ends-at : (step at).ends ≡ cond (ends_number byte) 1 0
  ends-at = rw is (ends-is byte few)

  pub marks-at : (limit : ℕ) → (limit + (step at).marks ≡ limit_after limit byte) × (limit + (step at).marks ≤ limit + 1)
  marks-at limit = rw is (marks-is limit byte few)

  pub mask-at : (value : ℕ) → value < 2 ^ 64 → bit_and value (step at).mask ≡ digits_after byte value
  mask-at value small = rw is (mask-is value byte few small)
