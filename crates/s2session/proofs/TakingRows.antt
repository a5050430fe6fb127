-- Registers and changes while they are taken.
use Rattle.std.proofs.Common.{ℕ, ◌<◌, ◌≤◌, List, [], ◌∷◌, ◌++◌, length, flat_map, refl, sym}
use Rattle.std.proofs.Common.{subst, arith, append_assoc}
use Rattle.std.proofs.lemmas.List.Elements.{All-from_recursion, All-push, recursion_from_All}
use Rattle.std.specs.List.{AllByRecursion}
use Rattle.s2list.specs.Union.{IsLocal}
use Rattle.s2list.specs.Numbers.{number_text}
use Rattle.s2shelf.specs.OpenedFile.{Claim}
use Rattle.s2edit.specs.Diff.{Diff}
use Rattle.s2session.specs.Session.{list_text, move_text, moves_text}
use Rattle.s2edit.specs.Content.{AreCells, IsRegisterList, IsMove}
use Rattle.s2session.specs.Working.SessionParts.{IsByte, IsNumber, AreMoves, AreRegisters, IsRow, byte_text}
use Rattle.s2session.specs.Working.SessionParts.{registers_text, row_text}
use Rattle.s2edit.specs.declared.TheConstants.{SESSION_REGISTERS, SESSION_CHANGES}
use Rattle.s2session.proofs.Fronts.{register_cells, move_front, moves_count}
use Rattle.s2session.specs.Working.Source.{Passes}
use Rattle.s2session.specs.Working.Taking.{Takes, Lacks}
use Rattle.s2session.specs.declared.fault.ReadFault.{ReadFault}
use Rattle.s2session.specs.declared.fault.ReadFault.TheVariants.{Form}
use Rattle.s2session.proofs.SessionReading.{register_unmerged, flat_map_end}
use Rattle.s2session.proofs.SessionRows.{move_without_out, move_without_put, move_wrong, registers_none, row_none}
use Rattle.s2session.proofs.SessionRows.{moves_count_many, moves_none}
use Rattle.s2session.proofs.Taking.{joined, of_front, refuses_later, refuses_weaker}

-- ---- the list of a register

pub register_wrong : {old new : Claim → List ℕ → Type 0} {cells : List ℕ} →
    Takes list_text AreCells old cells new → (IsLocal cells → ⊥) → Lacks list_text IsRegisterList Form old new
register_wrong t wrong = of_front t.is (λ rest. register_unmerged (record { is = refl; ok = t.ok }) wrong)

pub register_refused : (fault : ReadFault) {old new : Claim → List ℕ → Type 0} →
    Lacks list_text AreCells fault old new →
    Lacks list_text IsRegisterList fault old new
register_refused fault = refuses_weaker fault _ _ (λ bytes none cells rest f.
    none cells rest (record { is = f.is; ok = register_cells cells f.ok }))

-- ---- rows

-- one more was taken
pub one_more : {A : Type 0} {text : A → List ℕ} {IsOne : A → Type 0} {old mid new : Claim → List ℕ → Type 0}
    {xs : List A} {x : A} → Takes (flat_map text) (AllByRecursion IsOne) old xs mid → Takes text IsOne mid x new →
    Takes (flat_map text) (AllByRecursion IsOne) old (xs ++ x ∷ []) new
one_more {A} {text} {IsOne} {old} {mid} {new} {xs} {x} t u = record {
  is = subst (λ (bytes : List ℕ). Passes old new bytes) (flat_map_end text xs x) (joined t.is u.is);
  ok = recursion_from_All IsOne (xs ++ x ∷ []) (All-push IsOne xs x (All-from_recursion IsOne xs t.ok) u.ok);
}

module _ (fault : ReadFault) {old mid new : Claim → List ℕ → Type 0} where
  pub registers_refused : {xs : List (List ℕ)} → Takes registers_text (AllByRecursion IsRegisterList) old xs mid →
      length xs < SESSION_REGISTERS → Lacks list_text IsRegisterList fault mid new →
      Lacks registers_text AreRegisters fault old new
  registers_refused t few h =
      refuses_later fault _ _ t.is (λ rest none. registers_none (record { is = refl; each = t.ok }) few none) h

  pub row_refused : {xs : List Diff} (count : ℕ) → Takes row_text (AllByRecursion IsMove) old xs mid →
      length xs < count → Lacks move_text IsMove fault mid new → Lacks row_text (IsRow count) fault old new
  row_refused count t few h =
      refuses_later fault _ _ t.is (λ rest none. row_none count (record { is = refl; each = t.ok }) few none) h

-- ---- a change

-- without a byte there is no change
pub byte_refused : (fault : ReadFault) {old new : Claim → List ℕ → Type 0} → Lacks byte_text IsByte fault old new →
    Lacks move_text IsMove fault old new
byte_refused fault = refuses_weaker fault _ _ (λ bytes none m rest f.
    none m.register (list_text m.out ++ (list_text m.put ++ rest))
    (record { is = move_front bytes m rest f.is; ok = omega (arith, f.ok.register) }))

module _ {old mid : Claim → List ℕ → Type 0} {r : ℕ} (b : Takes byte_text IsByte old r mid) where
  pub out_refused : (fault : ReadFault) {new : Claim → List ℕ → Type 0} → Lacks list_text AreCells fault mid new →
      Lacks move_text IsMove fault old new
  out_refused fault = refuses_later fault _ _ b.is (λ rest. move_without_out (r ∷ rest) rest r refl)

  module _ {more : Claim → List ℕ → Type 0} {out : List ℕ} (o : Takes list_text AreCells mid out more) where
    pub put_refused : (fault : ReadFault) {new : Claim → List ℕ → Type 0} → Lacks list_text AreCells fault more new →
        Lacks move_text IsMove fault old new
    put_refused fault h =
        refuses_later fault _ _ (joined b.is o.is)
        (λ rest none. move_without_put (r ∷ (list_text out ++ rest)) (list_text out ++ rest) r refl out rest
        (record { is = refl; ok = o.ok }) none) h

    pub change_wrong : {new : Claim → List ℕ → Type 0} {put : List ℕ} → Takes list_text AreCells more put new →
        (IsMove (record { register = r; out = out; put = put }) → ⊥) → Lacks move_text IsMove Form old new
    change_wrong {new} {put} p wrong =
        of_front (joined b.is (joined o.is p.is))
        (λ rest. move_wrong _ ((list_text out ++ list_text put) ++ rest) r refl out (list_text put ++ rest)
        (record { is = append_assoc (list_text out) (list_text put) rest; ok = o.ok }) put rest
        (record { is = refl; ok = p.ok }) wrong)

-- ---- changes after their count

-- without a count there are none
pub counts_refused : (fault : ReadFault) {old new : Claim → List ℕ → Type 0} →
    Lacks number_text IsNumber fault old new →
    Lacks moves_text AreMoves fault old new
counts_refused fault = refuses_weaker fault _ _ (λ bytes none ms rest f. none _ _ (moves_count f))

module _ {old mid : Claim → List ℕ → Type 0} {count : ℕ} (n : Takes number_text IsNumber old count mid) where
  pub moves_of_many : SESSION_CHANGES < count → Lacks moves_text AreMoves Form old mid
  moves_of_many many = of_front n.is (λ after. moves_count_many _ after count (record { is = refl; ok = n.ok }) many)

  module _ {new : Claim → List ℕ → Type 0} where
    pub moves_refused : (fault : ReadFault) → Lacks row_text (IsRow count) fault mid new →
        Lacks moves_text AreMoves fault old new
    moves_refused fault h =
        refuses_later fault _ _ n.is (λ after none. moves_none _ after count (record { is = refl; ok = n.ok }) none) h

    pub moves_taken : {ms : List Diff} → Takes row_text (IsRow count) mid ms new → count ≤ SESSION_CHANGES →
        Takes moves_text AreMoves old ms new
    moves_taken {ms} t few = record {
      is = subst (λ (k : ℕ). Passes old new (number_text k ++ flat_map move_text ms)) (sym t.ok.len)
          (joined n.is t.is);
      ok = record { few = omega (arith, t.ok.len, few); each = t.ok.each };
    }
