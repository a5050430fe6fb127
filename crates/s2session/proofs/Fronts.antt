-- A value is at the front of bytes in only one way.
use Rattle.std.proofs.Common.{◌≡◌, ℕ, ◌<◌, List, [], ◌∷◌, ◌++◌, length}
use Rattle.std.proofs.Common.{drop, flat_map, refl, sym, ap, ◌∙◌, subst, append_assoc, arith}
use Rattle.std.proofs.lemmas.List.{drop_at, append-nil}
use Rattle.std.proofs.lemmas.List.Elements.{recursion_from_All}
use Rattle.std.specs.List.{AllByRecursion}
use Rattle.s2cell.specs.Cell.{IsCell}
use Rattle.s2cell.proofs.Calls.{fits_u64}
use Rattle.s2list.specs.Numbers.{first_number, number_text}
use Rattle.s2list.proofs.Numbers.{first_number-number_text, length-number_text}
use Rattle.s2edit.specs.Diff.{Diff}
use Rattle.s2edit.specs.Content.{Content, IsRegisterList, AreCells, IsMove, IsContent}
use Rattle.s2session.specs.Session.{list_text, move_text, moves_text, parts_text}
use Rattle.s2session.specs.Working.SessionParts.{Begins, IsNumber, AreMoves, AreRegisters, registers_text}

-- two values at the front of the same bytes are one, and the same bytes follow
abbrev pub IsOneWay : {A : Type 0} → (A → List ℕ) → (A → Type 0) → Type 0
IsOneWay {A} text Ok =
    (bytes : List ℕ) (a b : A) (r q : List ℕ) → Begins text Ok bytes a r → Begins text Ok bytes b q → (a ≡ b) × (r ≡ q)

pub one_number : IsOneWay number_text IsNumber
one_number bytes a b r q f g =
    let same : number_text a ++ r ≡ number_text b ++ q = sym f.is ∙ g.is in (
      sym (first_number-number_text a r f.ok) ∙ ap first_number same ∙ first_number-number_text b q g.ok,
      sym (drop_at (number_text a) r 8 (length-number_text a)) ∙ ap (drop 8) same
          ∙ drop_at (number_text b) q 8 (length-number_text b),
    )

-- one kind of values that is within another
module _ {A : Type 0} (text : A → List ℕ) (Ok More : A → Type 0) (more : (a : A) → Ok a → More a)
    (one : IsOneWay text More) where
  wider : (bytes : List ℕ) (a : A) (r : List ℕ) → Begins text Ok bytes a r → Begins text More bytes a r
  wider bytes a r f = record { is = f.is; ok = more a f.ok }

  pub one_within : IsOneWay text Ok
  one_within bytes a b r q f g = one bytes a b r q (wider bytes a r f) (wider bytes b q g)

-- values one after another
module _ {A : Type 0} (text : A → List ℕ) (Ok : A → Type 0) (one : IsOneWay text Ok) where
  first_of : (x : A) (xs : List A) (r : List ℕ) → Ok x →
      Begins text Ok (flat_map text (x ∷ xs) ++ r) x (flat_map text xs ++ r)
  first_of x xs r ok = record { is = append_assoc (text x) (flat_map text xs) r; ok = ok }

  heads : (x y : A) (xs ys : List A) (r q : List ℕ) → Ok x → Ok y →
      flat_map text (x ∷ xs) ++ r ≡ flat_map text (y ∷ ys) ++ q
      → (x ≡ y) × (flat_map text xs ++ r ≡ flat_map text ys ++ q)
  heads x y xs ys r q a b e =
      one (flat_map text (x ∷ xs) ++ r) x y (flat_map text xs ++ r) (flat_map text ys ++ q) (first_of x xs r a)
      (subst (λ (l : List ℕ). Begins text Ok l y (flat_map text ys ++ q)) (sym e) (first_of y ys q b))

  pub one_row : (xs ys : List A) (r q : List ℕ) → AllByRecursion Ok xs → AllByRecursion Ok ys → length xs ≡ length ys
      → flat_map text xs ++ r ≡ flat_map text ys ++ q → (xs ≡ ys) × (r ≡ q)
  one_row [] [] r q a b l e = (refl, e)
  one_row [] (y ∷ ys) r q a b l e = absurd (omega arith)
  one_row (x ∷ xs) [] r q a b l e = absurd (omega arith)
  one_row (x ∷ xs) (y ∷ ys) r q a b l e =
      let h = heads x y xs ys r q a.0 b.0 e in
      let t = one_row xs ys r q a.1 b.1 (omega arith) h.1 in
      (ap (λ (z : A). z ∷ xs) h.0 ∙ ap (λ (zs : List A). y ∷ zs) t.0, t.1)

  -- if no value follows the first ones, no longer row stands there
  pub no_more : (xs ys : List A) (mid r : List ℕ) → AllByRecursion Ok xs → AllByRecursion Ok ys → length xs < length ys
      → flat_map text xs ++ mid ≡ flat_map text ys ++ r → ((a : A) (rest : List ℕ) → Begins text Ok mid a rest → ⊥) → ⊥
  no_more [] [] mid r a b l e none = absurd (omega arith)
  no_more [] (y ∷ ys) mid r a b l e none =
      none y (flat_map text ys ++ r) (subst (λ (l : List ℕ). Begins text Ok l y (flat_map text ys ++ r)) (sym e)
      (first_of y ys r b.0))
  no_more (x ∷ xs) [] mid r a b l e none = absurd (omega arith)
  no_more (x ∷ xs) (y ∷ ys) mid r a b l e none =
      no_more xs ys mid r a.1 b.1 (omega arith) (heads x y xs ys mid r a.0 b.0 e).1 none

pub one_cell : IsOneWay number_text IsCell
one_cell = one_within number_text IsCell IsNumber fits_u64 one_number

-- a list of cells: its count, and what follows
pub list_count : {bytes ids r : List ℕ} → Begins list_text AreCells bytes ids r →
    Begins number_text IsNumber bytes (length ids) (flat_map number_text ids ++ r)
list_count {ids} {r} f = record {
  is = f.is ∙ append_assoc (number_text (length ids)) (flat_map number_text ids) r;
  ok = omega (arith, f.ok.few);
}

pub one_list : IsOneWay list_text AreCells
one_list bytes a b r q f g =
    let n = one_number bytes
    (length a) (length b) (flat_map number_text a ++ r) (flat_map number_text b ++ q) (list_count f) (list_count g) in
    one_row number_text IsCell one_cell a b r q (recursion_from_All IsCell a f.ok.valid)
    (recursion_from_All IsCell b g.ok.valid) n.0 n.1

pub register_cells : (cells : List ℕ) → IsRegisterList cells → AreCells cells
register_cells cells l = record { valid = l.local.cells; few = l.few }

pub one_register : IsOneWay list_text IsRegisterList
one_register = one_within list_text IsRegisterList AreCells register_cells one_list

-- a change: the byte of its register, and what follows
pub move_front : (bytes : List ℕ) (m : Diff) (r : List ℕ) → bytes ≡ move_text m ++ r →
    bytes ≡ m.register ∷ (list_text m.out ++ (list_text m.put ++ r))
move_front bytes m r e = e ∙ ap (λ (l : List ℕ). m.register ∷ l) (append_assoc (list_text m.out) (list_text m.put) r)

pub after_byte : (x y : ℕ) (xs ys : List ℕ) → x ∷ xs ≡ y ∷ ys → (x ≡ y) × (xs ≡ ys)
after_byte x y xs ys e = (cc, cc)

pub same_diff : (m n : Diff) → m.register ≡ n.register → m.out ≡ n.out → m.put ≡ n.put → m ≡ n
same_diff m n e f g =
    ap (λ (x : ℕ). record { register = x; out = m.out; put = m.put }) e
    ∙ ap (λ (x : List ℕ). record { register = n.register; out = x; put = m.put }) f
    ∙ ap (λ (x : List ℕ). record { register = n.register; out = n.out; put = x }) g

-- two changes at the front are one if their lists are lists of cells
pub same_move : (bytes : List ℕ) (m n : Diff) (r q : List ℕ) → bytes ≡ move_text m ++ r →
    bytes ≡ move_text n ++ q → AreCells m.out → AreCells m.put → AreCells n.out → AreCells n.put → (m ≡ n) × (r ≡ q)
same_move bytes m n r q e f mo mp po pp =
    let b = after_byte _ _ _ _ (sym (move_front bytes m r e) ∙ move_front bytes n q f) in
    let out = one_list (list_text m.out ++ (list_text m.put ++ r)) m.out n.out (list_text m.put ++ r)
    (list_text n.put ++ q) (record { is = refl; ok = mo }) (record { is = b.1; ok = po }) in
    let put = one_list (list_text m.put ++ r) m.put n.put r q (record { is = refl; ok = mp })
    (record { is = out.1; ok = pp }) in
    (same_diff m n b.0 out.0 put.0, put.1)

pub one_move : IsOneWay move_text IsMove
one_move bytes m n r q f g =
    same_move bytes m n r q f.is g.is f.ok.out f.ok.put g.ok.out g.ok.put

pub moves_count : {bytes : List ℕ} {ms : List Diff} {r : List ℕ} →
    Begins moves_text AreMoves bytes ms r → Begins number_text IsNumber bytes (length ms) (flat_map move_text ms ++ r)
moves_count {ms} {r} f = record {
  is = f.is ∙ append_assoc (number_text (length ms)) (flat_map move_text ms) r;
  ok = omega (arith, f.ok.few);
}

pub one_moves : IsOneWay moves_text AreMoves
one_moves bytes a b r q f g =
    let n = one_number bytes (length a) (length b) (flat_map move_text a ++ r) (flat_map move_text b ++ q)
    (moves_count f) (moves_count g) in
    one_row move_text IsMove one_move a b r q f.ok.each g.ok.each n.0 n.1

pub one_registers : IsOneWay registers_text AreRegisters
one_registers bytes a b r q f g =
    one_row list_text IsRegisterList one_register a b r q f.ok.each g.ok.each (f.ok.count ∙ sym g.ok.count)
    (sym f.is ∙ g.is)

-- the three parts of a session, from the front
pub record Parts (bytes : List ℕ) (s : Content) (after last rest : List ℕ) : Type 0 where
  pub registers : Begins registers_text AreRegisters bytes s.registers after
  pub past : Begins moves_text AreMoves after s.past last
  pub future : Begins moves_text AreMoves last s.future rest

pub parts_of : (bytes : List ℕ) {s : Content} → IsContent s →
    bytes ≡ parts_text s → Parts bytes s (moves_text s.past ++ moves_text s.future) (moves_text s.future) []
parts_of bytes {s} c e = record {
  registers = record { is = e; ok = record { count = c.count; each = c.registers } };
  past = record { is = refl; ok = record { few = omega (arith, c.few); each = c.past } };
  future = record {
    is = sym (append-nil (moves_text s.future));
    ok = record { few = omega (arith, c.few); each = c.future };
  };
}

pub same_content : (s t : Content) → s.registers ≡ t.registers → s.past ≡ t.past → s.future ≡ t.future → s ≡ t
same_content s t e f g =
    ap (λ (x : List (List ℕ)). record { registers = x; past = s.past; future = s.future }) e
    ∙ ap (λ (x : List Diff). record { registers = t.registers; past = x; future = s.future }) f
    ∙ ap (λ (x : List Diff). record { registers = t.registers; past = t.past; future = x }) g

pub one_session : {bytes : List ℕ} {s t : Content} {b l r b' l' r' : List ℕ} →
    Parts bytes s b l r → Parts bytes t b' l' r' → (s ≡ t) × (r ≡ r')
one_session {bytes} {s} {t} {b} {l} {r} {b'} {l'} {r'} f g =
    let regs = one_registers bytes s.registers t.registers b b' f.registers g.registers in
    let past = one_moves b s.past t.past l l' f.past
    (subst (λ (x : List ℕ). Begins moves_text AreMoves x t.past l') (sym regs.1) g.past) in
    let future = one_moves l s.future t.future r r' f.future
    (subst (λ (x : List ℕ). Begins moves_text AreMoves x t.future r') (sym past.1) g.future) in
    (same_content s t regs.0 past.0 future.0, future.1)
