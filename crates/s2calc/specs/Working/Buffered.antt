-- What only private contracts need, beside Buffered.antt, which has what public contracts need.
use Rattle.std.specs.Prelude.{ℕ, List, refl}
use Rattle.std.specs.Coded.{Coded, code_by, coded×, coded_list, coded_ℕ}
use Rattle.s2calc.specs.Buffered.{Buffered}

module _ {W : Type 0} where
  -- the code of a buffered writer, made from the code of its writer
  abbrev pub buffered_code : Coded W → Coded (Buffered W)
  buffered_code c = code_by (W × List ℕ) (coded× c (coded_list coded_ℕ)) (λ b. (b.writer, b.waiting))
      (λ p. record { writer = p.0; waiting = p.1 }) (λ _. refl)
