-- Registers that are followed along changes.
use Rattle.std.proofs.Common.{◌≡◌, ◌≢◌, ℕ, zero, suc, ◌+◌, ◌<◌, ◌≤◌, Bool, true, false, List, []}
use Rattle.std.proofs.Common.{◌∷◌, ◌++◌, length, take, drop, get_or, slice_set, add-one, drop-cons}
use Rattle.std.proofs.Common.{refl, sym, ap, ◌∙◌, subst, arith}
use Rattle.std.proofs.lemmas.Bool.{true≢false}
use Rattle.s2list.specs.Union.{Union, IsLocal}
use Rattle.s2union.specs.Apply.{has, cells_without, applied, Fits}
use Rattle.s2union.proofs.Applied.{only_out, only_put}
use Rattle.s2edit.specs.Diff.{Diff}
use Rattle.s2edit.specs.Content.{IsMove}
use Rattle.s2edit.specs.History.{AllLists}
use Rattle.s2edit.specs.Leads.{list_at}
use Rattle.s2edit.specs.Working.Chain.{AllRoomy}
use Rattle.s2edit.specs.Working.Following.{FailsToFollow, HaveRoom, KeepRoom}
use Rattle.s2edit.specs.declared.session.RestoreFault.{RestoreFault}
use Rattle.s2edit.specs.declared.session.RestoreFault.TheVariants.{Fit, TooDeep, TooMany, Memory}
use Rattle.s2edit.proofs.Numbers.{cells_lost-self}

-- a change that isn't empty changes the list
pub applied_differs : (out put u : List ℕ) → IsLocal u → Fits out put u → 0 < length out + length put →
    applied out put u ≢ u
applied_differs out put u local f some e =
    let none : length (cells_without u u) ≡ 0 = omega (arith, cells_lost-self (u ∷ [])) in
    absurd (omega (
      arith,
      some,
      ap length (only_out out put u u local f e),
      ap length (only_put out put u u local local f e),
      none,
    ))

-- copies keep room
pub keep_room : (limit : ℕ) (us vs : List Union) → KeepRoom us vs → AllRoomy limit us → AllRoomy limit vs
keep_room limit [] [] k a = tt
keep_room limit [] (v ∷ vs) k a = absurd k
keep_room limit (u ∷ us) [] k a = absurd k
keep_room limit (u ∷ us) (v ∷ vs) k a = (omega (arith, k.0, a.0), keep_room limit us vs k.1 a.1)

-- the change that takes one back is one that a file may hold
pub swapped : (m : Diff) → IsMove m → IsMove (record { register = m.register; out = m.put; put = m.out })
swapped m g = record {
  register = g.register;
  out = g.put;
  put = g.out;
  lists = record {
    out_ascends = g.lists.put_ascends;
    put_ascends = g.lists.out_ascends;
    apart = λ x h. not_true (has m.out x) (λ e. true≢false (sym h ∙ g.lists.apart x e));
  };
  some = omega (arith, g.some);
}
  where
    not_true : (b : Bool) → (b ≡ true → ⊥) → b ≡ false
    not_true true n = absurd (n refl)
    not_true false n = refl

-- the next of the values that are left
pub drop_next : {A : Type 0} (xs : List A) (i : ℕ) (x : A) → i < length xs → x ≡ get_or xs i x →
    drop i xs ≡ x ∷ drop (i + 1) xs
drop_next {A} xs i x l e =
    let h : drop i xs ≡ get_or xs i x ∷ drop (i + 1) xs = rw (add-one, drop-cons xs i x) refl in
    h ∙ ap (λ (y : A). y ∷ drop (i + 1) xs) (sym e)

-- following that fails because a part of it does
pub fails : (fault : RestoreFault) (P Q : Type 0) → (Q → P) → FailsToFollow fault P → FailsToFollow fault Q
fails Fit P Q f n = λ q. n (f q)
fails TooDeep P Q f n = n
fails TooMany P Q f n = n
fails Memory P Q f n = tt

-- room for lists that keep to the limit
pub have_room : (limit : ℕ) (t : List (List ℕ)) (us : List Union) → length t ≡ length us →
    AllLists (λ u. length u ≤ limit) t → AllRoomy limit us → HaveRoom t us
have_room limit [] [] l a r = tt
have_room limit [] (u ∷ us) l a r = absurd (omega arith)
have_room limit (t ∷ ts) [] l a r = absurd (omega arith)
have_room limit (t ∷ ts) (u ∷ us) l a r = (omega (arith, a.0, r.0), have_room limit ts us (omega arith) a.1 r.1)

-- a copy of a list that takes its place
pub room_at : (t : List (List ℕ)) (us : List Union) (i : ℕ) (u : Union) → HaveRoom t us → i < length us →
    u ≡ get_or us i u → length (list_at t i) ≤ u.room
room_at [] [] i u h l e = absurd (omega arith)
room_at [] (v ∷ us) i u h l e = absurd h
room_at (w ∷ t) [] i u h l e = absurd h
room_at (w ∷ t) (v ∷ us) zero u h l e = subst (λ (x : Union). length w ≤ x.room) (sym e) h.0
room_at (w ∷ t) (v ∷ us) (suc i) u h l e = room_at t us i u h.1 (omega arith) e

pub have_count : (t : List (List ℕ)) (us : List Union) → HaveRoom t us → length t ≡ length us
have_count [] [] h = refl
have_count [] (u ∷ us) h = absurd h
have_count (t ∷ ts) [] h = absurd h
have_count (t ∷ ts) (u ∷ us) h = ap suc (have_count ts us h.1)

pub keep_count : (us vs : List Union) → KeepRoom us vs → length us ≡ length vs
keep_count [] [] h = refl
keep_count [] (v ∷ vs) h = absurd h
keep_count (u ∷ us) [] h = absurd h
keep_count (u ∷ us) (v ∷ vs) h = ap suc (keep_count us vs h.1)

pub keep_self : (us : List Union) → KeepRoom us us
keep_self [] = tt
keep_self (u ∷ us) = (omega arith, keep_self us)

pub keep_set : (us vs : List Union) (i : ℕ) (u v : Union) → KeepRoom us vs → u ≡ get_or vs i u → u.room ≤ v.room →
    KeepRoom us (slice_set vs i v)
keep_set [] [] i u v k e l = tt
keep_set [] (w ∷ vs) i u v k e l = absurd k
keep_set (x ∷ us) [] i u v k e l = absurd k
keep_set (x ∷ us) (w ∷ vs) zero u v k e l = let same : u.room ≡ w.room = ap (λ (y : Union). y.room) e in
    (omega (arith, k.0, l, same), k.1)
keep_set (x ∷ us) (w ∷ vs) (suc i) u v k e l = (k.0, keep_set us vs i u v k.1 e l)

pub have_set : (t : List (List ℕ)) (vs : List Union) (i : ℕ) (u v : Union) → HaveRoom t vs → u ≡ get_or vs i u →
    u.room ≤ v.room → HaveRoom t (slice_set vs i v)
have_set [] [] i u v k e l = tt
have_set [] (w ∷ vs) i u v k e l = absurd k
have_set (x ∷ t) [] i u v k e l = absurd k
have_set (x ∷ t) (w ∷ vs) zero u v k e l = let same : u.room ≡ w.room = ap (λ (y : Union). y.room) e in
    (omega (arith, k.0, l, same), k.1)
have_set (x ∷ t) (w ∷ vs) (suc i) u v k e l = (k.0, have_set t vs i u v k.1 e l)

-- one more list that is copied
pub copied_more : (t s : List (List ℕ)) (i : ℕ) → length s ≡ length t → i < length t →
    slice_set (take i t ++ drop i s) i (list_at t i) ≡ take (i + 1) t ++ drop (i + 1) s
copied_more [] s i n l = absurd (omega arith)
copied_more (x ∷ t) [] i n l = absurd (omega arith)
copied_more (x ∷ t) (y ∷ s) zero n l = refl
copied_more (x ∷ t) (y ∷ s) (suc i) n l =
    let one : suc i + 1 ≡ suc (i + 1) = omega arith in
    ap (λ (l' : List (List ℕ)). x ∷ l') (copied_more t s i (omega arith) (omega arith))
    ∙ sym (ap (λ (k : ℕ). take k (x ∷ t) ++ drop k (y ∷ s)) one)

-- the next of the changes that are left
