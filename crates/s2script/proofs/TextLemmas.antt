-- Lemmas on texts that are put in parts.
use Rattle.std.proofs.Common.{◌≡◌, ℕ, List, [], ◌++◌, subst}
use Rattle.std.specs.Fmt.{WritesInCalls}
use Rattle.std.proofs.Output.{writes_in_calls_nil, writes_in_calls_append}

module _ {T : Type 0} (puts : T → List ℕ → T → Type 0) where
  -- no part
  pub no_parts : (a : T) → WritesInCalls puts a [] a
  no_parts a = writes_in_calls_nil puts a

  -- two parts, one after the other
  pub two_parts : (a b c : T) (x y all : List ℕ) → WritesInCalls puts a x b → WritesInCalls puts b y c →
      x ++ y ≡ all → WritesInCalls puts a all c
  two_parts a b c x y all p q is =
      subst (λ text. WritesInCalls puts a text c) is (writes_in_calls_append puts a x b y c p q)

  -- three parts
  pub three_parts : (a b c d : T) (x y z all : List ℕ) → WritesInCalls puts a x b → WritesInCalls puts b y c →
      WritesInCalls puts c z d → (x ++ y) ++ z ≡ all → WritesInCalls puts a all d
  three_parts a b c d x y z all p q r is =
      two_parts a c d (x ++ y) z all (writes_in_calls_append puts a x b y c p q) r is

  -- four parts
  pub four_parts : (a b c d e : T) (x y z w all : List ℕ) → WritesInCalls puts a x b → WritesInCalls puts b y c →
      WritesInCalls puts c z d → WritesInCalls puts d w e → ((x ++ y) ++ z) ++ w ≡ all → WritesInCalls puts a all e
  four_parts a b c d e x y z w all p q r s is =
      three_parts a c d e (x ++ y) z w all (writes_in_calls_append puts a x b y c p q) r s is

  -- five parts
  pub five_parts : (a b c d e f : T) (x y z w v all : List ℕ) → WritesInCalls puts a x b → WritesInCalls puts b y c →
      WritesInCalls puts c z d → WritesInCalls puts d w e → WritesInCalls puts e v f
      → (((x ++ y) ++ z) ++ w) ++ v ≡ all → WritesInCalls puts a all f
  five_parts a b c d e f x y z w v all p q r s t is =
      four_parts a c d e f (x ++ y) z w v all (writes_in_calls_append puts a x b y c p q) r s t is

  -- six parts
  pub six_parts : (a b c d e f g : T) (x y z w v u all : List ℕ) → WritesInCalls puts a x b → WritesInCalls puts b y c →
      WritesInCalls puts c z d → WritesInCalls puts d w e → WritesInCalls puts e v f → WritesInCalls puts f u g
      → ((((x ++ y) ++ z) ++ w) ++ v) ++ u ≡ all → WritesInCalls puts a all g
  six_parts a b c d e f g x y z w v u all p q r s t i is =
      five_parts a c d e f g (x ++ y) z w v u all (writes_in_calls_append puts a x b y c p q) r s t i is

-- texts of some parts
pub ruleset parts = (no_parts, two_parts, three_parts, four_parts, five_parts, six_parts)
