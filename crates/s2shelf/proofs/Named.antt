-- Named files after a change at one name.
use Rattle.std.proofs.Common.{◌≡◌, ◌≢◌, ℕ, true, false, List, Option, Some, sym, ap, ◌∙◌, refl}
use Rattle.std.specs.Prelude.{option_map}
use Rattle.std.specs.Map.{update}
use Rattle.std.specs.Str.{bytes_eq}
use Rattle.std.proofs.lemmas.Bool.{false_from_ne_true}
use Rattle.std.proofs.lemmas.Slice.Eq.{bytes_eq-Decides}

pub put_there : {X : Type 0} (view : X → List ℕ) (f g : List ℕ → Option X) (key name : List ℕ) (v : X) (bytes : List ℕ)
    → ((cs : List ℕ) → g cs ≡ update bytes_eq f key (Some v) cs) → key ≡ name → view v ≡ bytes →
    option_map view (g name) ≡ Some bytes
put_there view f g key name v bytes after same is =
    let hit : bytes_eq key name ≡ true = (bytes_eq-Decides key name).1 same in
    rw (after name, hit) (ap Some is)

pub put_elsewhere : {X : Type 0} (view : X → List ℕ) (f g : List ℕ → Option X) (key name other : List ℕ) (v : X)
    → ((cs : List ℕ) → g cs ≡ update bytes_eq f key (Some v) cs) → key ≡ name → other ≢ name →
    option_map view (g other) ≡ option_map view (f other)
put_elsewhere view f g key name other v after same ne =
    let miss : bytes_eq key other ≡ false = false_from_ne_true (bytes_eq key other)
    (λ h. ne (sym ((bytes_eq-Decides key other).0 h) ∙ same)) in
    rw (after other, miss) refl
