-- How a cell lies, by what is known of it.
use Rattle.std.proofs.Common.{◌≡◌, refl, ℕ, Bool, true, false, [], ◌↔◌, IsTrue}
use Rattle.s2list.specs.Union.{LiesIn}
use Rattle.s2cover.specs.Coverings.{LiesOutside}
use Rattle.s2cover.specs.declared.region.Part.{Part}
use Rattle.s2cover.specs.declared.region.Part.TheVariants.{Out, In, Cross}
use Rattle.s2polygon.proofs.Bare.{out_of_outer, out_of_inner, in_inner, in_outer, crossed_outer, crossed_inner}
use Rattle.s2polygon.proofs.Bare.{odd_outer, even_inner}
use Rattle.s2polygon.proofs.Meetings.{no, yes}
use Rattle.s2polygon.specs.Leaves.{Region, inner_leaf, outer_leaf}
use Rattle.s2polygon.specs.Descents.{IsKnown}
use Rattle.s2polygon.specs.Working.Known.{part_by}
use Rattle.s2polygon.specs.declared.descent.Known.{Known}

-- what a part says of a cell
pub record Says (r : Region) (c : ℕ) (p : Part) : Type 0 where
  pub out : (p ≡ Out) ↔ LiesOutside (outer_leaf r) c
  pub inside : (p ≡ In) ↔ LiesIn (inner_leaf r) c
  pub none : p ≡ Out → LiesOutside (inner_leaf r) c
  pub all : p ≡ In → LiesIn (outer_leaf r) c

module _ (r : Region) (c face i j size : ℕ) (known : Known) (h : IsKnown r c face i j size known) where
  pub says_cross : ¬ (known.edges.items ≡ []) → Says r c Cross
  says_cross some = record {
    out = (λ e. cc, λ lies. absurd (crossed_outer r c face i j size known h some lies));
    inside = (λ e. cc, λ lies. absurd (crossed_inner r c face i j size known h some lies));
    none = λ e. cc;
    all = λ e. cc;
  }

  pub says_in : known.edges.items ≡ [] → known.odd ≡ true → Says r c In
  says_in none odd = record {
    out = (λ e. cc, λ lies. absurd (odd_outer r c face i j size known h none odd lies));
    inside = (λ e. in_inner r c face i j size known h none odd, λ lies. refl);
    none = λ e. cc;
    all = λ e. in_outer r c face i j size known h none odd;
  }

  pub says_out : known.edges.items ≡ [] → known.odd ≡ false → Says r c Out
  says_out none even = record {
    out = (λ e. out_of_outer r c face i j size known h none even, λ lies. refl);
    inside = (λ e. cc, λ lies. absurd (even_inner r c face i j size known h none even lies));
    none = λ e. out_of_inner r c face i j size known h none even;
    all = λ e. cc;
  }

  pub says_part : (bare : Bool) → (IsTrue bare ↔ (known.edges.items ≡ [])) → Says r c (part_by bare known.odd)
  says_part bare e = by bare known.odd e refl
    where
      by : (b o : Bool) → (IsTrue b ↔ (known.edges.items ≡ [])) → known.odd ≡ o → Says r c (part_by b o)
      by false o f is = says_cross (λ none. no (f.1 none))
      by true true f is = says_in (f.0 yes) is
      by true false f is = says_out (f.0 yes) is
