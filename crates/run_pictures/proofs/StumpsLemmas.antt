-- The stumps of packets, one packet after another.
use Rattle.run_pictures.proofs.Words.{◌≡◌, ℕ, zero, suc, ◌+◌, ◌-◌, ◌<◌, ◌≤◌, List, [], ◌∷◌, ◌++◌, refl, sym, ◌∙◌, ap, arith, append_assoc, append-nil, Step, Packets, Stump, stump, stumps_from}

module _ (packets : Packets) (shown : List Step) where
  -- the stumps of the packets from n up to `end` are that of packet n and those of the packets
  -- after it
  stumps_from-step : (n end count : ℕ) → end - n ≡ count → n < end
      → stumps_from packets shown n count ≡ stump packets shown n ++ stumps_from packets shown (n + 1) (end - (n + 1))
  stumps_from-step n end zero is within = absurd (omega (arith, is, within))
  stumps_from-step n end (suc count) is within =
      let fewer : count ≡ end - (n + 1) = omega (arith, is, within) in
      ap (λ m. stump packets shown n ++ stumps_from packets shown (n + 1) m) fewer

  -- the stump of one packet is written, and those after it are left
  pub one_packet : (n end : ℕ) (done more whole : List Stump)
      → n < end
      → done ++ stumps_from packets shown n (end - n) ≡ whole
      → more ≡ done ++ stump packets shown n
      → more ++ stumps_from packets shown (n + 1) (end - (n + 1)) ≡ whole
  one_packet n end done more whole within is written =
      ap (λ m. m ++ stumps_from packets shown (n + 1) (end - (n + 1))) written
      ∙ (append_assoc done (stump packets shown n) (stumps_from packets shown (n + 1) (end - (n + 1)))
      ∙ (ap (λ rest. done ++ rest) (sym (stumps_from-step n end (end - n) refl within))
      ∙ is))

  -- no packet is left, so all stumps are written
  pub no_packet_left : (n end : ℕ) (done whole : List Stump)
      → end ≤ n → done ++ stumps_from packets shown n (end - n) ≡ whole → done ≡ whole
  no_packet_left n end done whole past is =
      let none : end - n ≡ 0 = omega (arith, past) in
      sym (append-nil done) ∙ (ap (λ m. done ++ stumps_from packets shown n m) (sym none) ∙ is)
