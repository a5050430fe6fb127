-- Changes, rows of registers and of changes, and whole sessions while they are read.
use Rattle.std.proofs.Common.{◌≡◌, ◌≢◌, ℕ, ◌+◌, ◌<◌, List, [], ◌∷◌, ◌++◌, length, flat_map, sym, ap, ◌∙◌, subst}
use Rattle.std.proofs.Common.{append_assoc, arith}
use Rattle.std.specs.List.{AllByRecursion}
use Rattle.s2list.specs.Numbers.{number_text}
use Rattle.s2edit.specs.Diff.{Diff}
use Rattle.s2edit.specs.Content.{Content, AreCells, IsRegisterList, IsMove, IsContent}
use Rattle.s2session.specs.Session.{list_text, move_text, moves_text, parts_text, IsSessionFile}
use Rattle.s2session.specs.Working.SessionParts.{Begins, BeginsNone, IsNumber, AreMoves, AreRegisters, IsRow}
use Rattle.s2session.specs.Working.SessionParts.{registers_text, row_text}
use Rattle.s2edit.specs.declared.TheConstants.{SESSION_REGISTERS, SESSION_CHANGES}
use Rattle.s2session.proofs.Fronts.{one_number, one_list, one_move, one_moves, one_registers, one_register, no_more}
use Rattle.s2session.proofs.Fronts.{same_move, after_byte, move_front, moves_count, Parts, parts_of, one_session}

-- a change
module _ (bytes lists : List ℕ) (r : ℕ) (e : bytes ≡ r ∷ lists) where
  parts_after : (m : Diff) (rest : List ℕ) → Begins move_text IsMove bytes m rest → (r ≡ m.register)
      × (lists ≡ list_text m.out ++ (list_text m.put ++ rest))
  parts_after m rest g = after_byte _ _ _ _ (sym e ∙ move_front bytes m rest g.is)

  pub move_without_out : BeginsNone list_text AreCells lists → BeginsNone move_text IsMove bytes
  move_without_out none m rest g =
      none m.out (list_text m.put ++ rest) (record { is = (parts_after m rest g).1; ok = g.ok.out })

  module _ (out after : List ℕ) (o : Begins list_text AreCells lists out after) where
    pub move_without_put : BeginsNone list_text AreCells after → BeginsNone move_text IsMove bytes
    move_without_put none m rest g =
        let same = one_list lists out m.out after (list_text m.put ++ rest) o
        (record { is = (parts_after m rest g).1; ok = g.ok.out }) in
        none m.put rest (record { is = same.1; ok = g.ok.put })

    module _ (put rest : List ℕ) (p : Begins list_text AreCells after put rest) where
      move_is : bytes ≡ move_text (record { register = r; out = out; put = put }) ++ rest
      move_is = e ∙ ap (λ (l : List ℕ). r ∷ l) (o.is ∙ ap (λ (l : List ℕ). list_text out ++ l) p.is
          ∙ sym (append_assoc (list_text out) (list_text put) rest))

      pub move_wrong : (IsMove (record { register = r; out = out; put = put }) → ⊥) →
          BeginsNone move_text IsMove bytes
      move_wrong wrong m more g =
          let same = same_move bytes (record { register = r; out = out; put = put }) m rest more move_is g.is o.ok
          p.ok g.ok.out g.ok.put in
          wrong (subst IsMove (sym same.0) g.ok)

-- values one after another: these are the first, and the rest is left
pub record RowSoFar {A : Type 0} (text : A → List ℕ) (Ok : A → Type 0) (bytes : List ℕ) (xs : List A)
    (rest : List ℕ) : Type 0 where
  pub is : bytes ≡ flat_map text xs ++ rest
  pub each : AllByRecursion Ok xs

pub registers_none : {bytes : List ℕ} {xs : List (List ℕ)} {mid : List ℕ} →
    RowSoFar list_text IsRegisterList bytes xs mid → length xs < SESSION_REGISTERS →
    BeginsNone list_text IsRegisterList mid → BeginsNone registers_text AreRegisters bytes
registers_none {xs} {mid} r few none lists rest f =
    no_more list_text IsRegisterList one_register xs lists mid rest r.each f.ok.each
    (omega (arith, few, f.ok.count)) (sym r.is ∙ f.is) none

pub row_none : {bytes : List ℕ} {xs : List Diff} {mid : List ℕ} (count : ℕ) → RowSoFar move_text IsMove bytes xs mid →
    length xs < count → BeginsNone move_text IsMove mid → BeginsNone row_text (IsRow count) bytes
row_none {xs} {mid} count r few none ms rest f =
    no_more move_text IsMove one_move xs ms mid rest r.each f.ok.each (omega (arith, few, f.ok.len))
    (sym r.is ∙ f.is) none

-- changes after their count
module _ (bytes after : List ℕ) (count : ℕ) (n : Begins number_text IsNumber bytes count after) where
  counted : (ms : List Diff) (rest : List ℕ) → Begins moves_text AreMoves bytes ms rest → (count ≡ length ms)
      × (after ≡ flat_map move_text ms ++ rest)
  counted ms rest f = one_number bytes count (length ms) after (flat_map move_text ms ++ rest) n
      (moves_count f)

  pub moves_count_many : SESSION_CHANGES < count → BeginsNone moves_text AreMoves bytes
  moves_count_many many ms rest f = absurd (omega (arith, many, (counted ms rest f).0, f.ok.few))

  pub moves_none : BeginsNone row_text (IsRow count) after → BeginsNone moves_text AreMoves bytes
  moves_none none ms rest f =
      let c = counted ms rest f in
      none ms rest (record { is = c.1; ok = record { len = sym c.0; each = f.ok.each } })

-- a session file
after_two : (a b c d : ℕ) (xs ys : List ℕ) → a ∷ b ∷ xs ≡ c ∷ d ∷ ys → xs ≡ ys
after_two a b c d xs ys e = (after_byte b d xs ys (after_byte a c (b ∷ xs) (d ∷ ys) e).1).1

module _ (bytes parts : List ℕ) (e : bytes ≡ 0x73 ∷ 1 ∷ parts) where
  whole : (s : Content) → IsSessionFile bytes s →
      Parts parts s (moves_text s.past ++ moves_text s.future) (moves_text s.future) []
  whole s f = parts_of parts f.content (after_two 0x73 1 0x73 1 parts (parts_text s) (sym e ∙ f.text))

  pub file_without_registers : BeginsNone registers_text AreRegisters parts → (s : Content) → IsSessionFile bytes s → ⊥
  file_without_registers none s f = none s.registers (moves_text s.past ++ moves_text s.future) (whole s f).registers

  module _ (registers : List (List ℕ)) (after : List ℕ)
      (r : Begins registers_text AreRegisters parts registers after) where
    pub file_without_past : BeginsNone moves_text AreMoves after → (s : Content) → IsSessionFile bytes s → ⊥
    file_without_past none s f =
        let same = one_registers parts registers s.registers after (moves_text s.past ++ moves_text s.future) r
        (whole s f).registers in
        none s.past (moves_text s.future)
        (subst (λ (l : List ℕ). Begins moves_text AreMoves l s.past (moves_text s.future)) (sym same.1)
        (whole s f).past)

    module _ (past : List Diff) (last : List ℕ) (p : Begins moves_text AreMoves after past last) where
      pub file_without_future : BeginsNone moves_text AreMoves last → (s : Content) → IsSessionFile bytes s → ⊥
      file_without_future none s f =
          let same = one_registers parts registers s.registers after (moves_text s.past ++ moves_text s.future) r
          (whole s f).registers in
          let sides = one_moves after past s.past last (moves_text s.future) p
          (subst (λ (l : List ℕ). Begins moves_text AreMoves l s.past (moves_text s.future)) (sym same.1)
          (whole s f).past) in
          none s.future [] (subst (λ (l : List ℕ). Begins moves_text AreMoves l s.future []) (sym sides.1)
          (whole s f).future)

      module _ (future : List Diff) (rest : List ℕ) (q : Begins moves_text AreMoves last future rest) where
        read : Parts parts (record { registers = registers; past = past; future = future }) after last rest
        read = record { registers = r; past = p; future = q }

        same_session : (s : Content) → IsSessionFile bytes s →
            (record { registers = registers; past = past; future = future } ≡ s) × (rest ≡ [])
        same_session s f =
            one_session read (whole s f)

        pub file_with_more : rest ≢ [] → (s : Content) → IsSessionFile bytes s → ⊥
        file_with_more more s f = more (same_session s f).1

        pub file_of_many : SESSION_CHANGES < length past + length future → (s : Content) → IsSessionFile bytes s → ⊥
        file_of_many many s f =
            let c = subst IsContent (sym (same_session s f).0) f.content in
            absurd (omega (arith, many, c.few))
