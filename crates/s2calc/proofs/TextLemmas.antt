-- A history has one text.
use Rattle.std.proofs.Common.{◌≡◌, ℕ, List, [], ◌∷◌, reverse, inl, inr, refl, sym, ap, ◌∙◌}
use Rattle.std.proofs.lemmas.Bool.{cases_eq}
use Rattle.std.proofs.lemmas.List.{get_or-set_other, reverse-reverse}
use Rattle.s2edit.specs.Diff.{Diff, change_between}
use Rattle.s2edit.specs.Content.{Content}
use Rattle.s2session.specs.Session.{session_text, Text}
use Rattle.s2edit.specs.History.{History}
use Rattle.s2edit.specs.Leads.{list_at, Leads}
use Rattle.s2edit.specs.Session.{LeadBack, LeadAhead, Records}

-- the register in which two tables differ is one
one_register : (d e : Diff) (t u : List (List ℕ)) → Leads d t u → Leads e t u → d.register ≡ e.register
one_register d e t u f g =
    elim (cases_eq d.register e.register) [
      | inl same ↦ same
      | inr other ↦ absurd (f.differs (ap (λ (v : List (List ℕ)). list_at v d.register) g.only
          ∙ get_or-set_other t e.register d.register (list_at u e.register) [] other))
    ]

-- and so the change that leads from one to the other
one_lead : (d e : Diff) (t u : List (List ℕ)) → Leads d t u → Leads e t u → d ≡ e
one_lead d e t u f g =
    f.change ∙ ap (λ (r : ℕ). change_between r (list_at t r) (list_at u r)) (one_register d e t u f g) ∙ sym g.change

one_ahead : (ms ns : List Diff) (t : List (List ℕ)) (ts : List (List (List ℕ))) → LeadAhead ms t ts →
    LeadAhead ns t ts → ms ≡ ns
one_ahead [] [] t [] f g = refl
one_ahead [] [] t (u ∷ us) f g = absurd f
one_ahead [] (n ∷ ns) t [] f g = absurd g
one_ahead [] (n ∷ ns) t (u ∷ us) f g = absurd f
one_ahead (m ∷ ms) ns t [] f g = absurd f
one_ahead (m ∷ ms) [] t (u ∷ us) f g = absurd g
one_ahead (m ∷ ms) (n ∷ ns) t (u ∷ us) f g =
    ap (λ (x : Diff). x ∷ ms) (one_lead m n t u f.0 g.0)
    ∙ ap (λ (xs : List Diff). n ∷ xs) (one_ahead ms ns u us f.1 g.1)

one_back : (ms ns : List Diff) (t : List (List ℕ)) (ts : List (List (List ℕ))) → LeadBack ms t ts →
    LeadBack ns t ts → ms ≡ ns
one_back [] [] t [] f g = refl
one_back [] [] t (u ∷ us) f g = absurd f
one_back [] (n ∷ ns) t [] f g = absurd g
one_back [] (n ∷ ns) t (u ∷ us) f g = absurd f
one_back (m ∷ ms) ns t [] f g = absurd f
one_back (m ∷ ms) [] t (u ∷ us) f g = absurd g
one_back (m ∷ ms) (n ∷ ns) t (u ∷ us) f g =
    ap (λ (x : Diff). x ∷ ms) (one_lead m n u t f.0 g.0)
    ∙ ap (λ (xs : List Diff). n ∷ xs) (one_back ms ns u us f.1 g.1)

one_telling : (s t : Content) (h : History (List ℕ)) → Records s h → Records t h → s ≡ t
one_telling s t h f g =
    let past : s.past ≡ t.past = sym (reverse-reverse s.past)
    ∙ ap reverse (one_back (reverse s.past) (reverse t.past) h.now h.past f.past g.past)
    ∙ reverse-reverse t.past in
    let future : s.future ≡ t.future = one_ahead s.future t.future h.now h.future f.future g.future in
    let registers : s.registers ≡ t.registers = sym f.now ∙ g.now in
    ap (λ (x : List (List ℕ)). record { registers = x; past = s.past; future = s.future }) registers
    ∙ ap (λ (x : List Diff). record { registers = t.registers; past = x; future = s.future }) past
    ∙ ap (λ (x : List Diff). record { registers = t.registers; past = t.past; future = x }) future

pub one_text_of : (h : History (List ℕ)) (bytes others : List ℕ) → Text h bytes → Text h others → bytes ≡ others
one_text_of h bytes others f g = f.is ∙ ap session_text (one_telling f.content g.content h f.tells g.tells) ∙ sym g.is
