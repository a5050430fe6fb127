-- Lemmas on a listing whose lines are put together before they are handed on.
use Rattle.std.proofs.Common.{◌≡◌, ℕ, ◌+◌, ◌<◌, ◌≤◌, List, [], ◌∷◌, ◌++◌, codes, length, take, get_or, sym, refl, set}
use Rattle.std.proofs.Common.{Option, subst, ap, ◌∙◌, append_assoc, append-nil, arith, length-append}
use Rattle.std.specs.List.{flat_map}
use lib.Seq.{take-take}
use Rattle.std.proofs.Math.Seq.{take-append-add}
use Rattle.std.proofs.lemmas.List.{take_more, take_more_set, flat_map_more, length-take-le}
use Rattle.std.proofs.lemmas.List.Concat.{flat_map-append}
use Rattle.s2cell.specs.Token.{token_of}
use Rattle.std.specs.Io.KnownBytes.{Appends}
use Rattle.s2calc.specs.Output.{AppendsPart}
use Rattle.s2calc.specs.Texts.{token_line, listing}
use Rattle.s2calc.specs.Working.Listing.{IsUnderway}
use Rattle.s2calc.proofs.OutputLemmas.{AppendsPart-after, Appends-whole}

-- a line waits too
pub underway_more : {start now : Option (List ℕ)} {waiting text : List ℕ} (line later : List ℕ) →
    IsUnderway start now waiting text → later ≡ waiting ++ line → IsUnderway start now later (text ++ line)
underway_more line later u e =
    record {
      sent = u.sent;
      written = u.written;
      all = ap (λ s. s ++ line) u.all ∙ append_assoc u.sent _ line ∙ ap (λ s. u.sent ++ s) (sym e);
    }

-- what waited was written
pub underway_whole : {start now : Option (List ℕ)} {waiting text : List ℕ} (new : Option (List ℕ)) →
    IsUnderway start now waiting text → Appends now new waiting → Appends start new text
underway_whole {start} {now} {waiting} {text} new u w =
    Appends-whole start now new text u.sent waiting u.written w u.all

pub underway_sent : {start now : Option (List ℕ)} {waiting text : List ℕ} (new : Option (List ℕ)) →
    IsUnderway start now waiting text → Appends now new waiting → IsUnderway start new [] text
underway_sent {text} new u w =
    record { sent = text; written = underway_whole new u w; all = sym (append-nil text) }

-- a part of what waited was written, and more was to follow
pub underway_part : {start now : Option (List ℕ)} {waiting text : List ℕ} (new : Option (List ℕ)) →
    IsUnderway start now waiting text → AppendsPart now new waiting → AppendsPart start new text
underway_part {start} {now} {waiting} {text} new u p =
    AppendsPart-after start now new text u.sent waiting [] u.written p
    (u.all ∙ ap (λ s. u.sent ++ s) (sym (append-nil waiting)))

-- the lines of one more cell
pub lines_more : (cells : List ℕ) (i cell : ℕ) → i < length cells → cell ≡ get_or cells i cell →
    flat_map token_line (take (i + 1) cells) ≡ flat_map token_line (take i cells) ++ token_line cell
lines_more cells i cell h e =
    ap (flat_map token_line) (take_more cells i cell h ∙ ap (λ x. take i cells ++ x ∷ []) (sym e))
    ∙ sym (flat_map_more token_line [] (take i cells) cell)

listing_is : (cells : List ℕ) → listing cells ≡ flat_map token_line cells ++ (codes "end" ++ 10 ∷ [])
unfolding listing
listing_is cells = refl

-- all lines and the last one were written, or a part of them
pub listing_whole : {start now : Option (List ℕ)} {waiting : List ℕ} (cells later : List ℕ) (new : Option (List ℕ)) →
    IsUnderway start now waiting (flat_map token_line cells) → later ≡ waiting ++ (codes "end" ++ 10 ∷ []) →
    Appends now new later → Appends start new (listing cells)
listing_whole {start} cells later new u e w = subst (Appends start new) (sym (listing_is cells))
    (underway_whole new (underway_more (codes "end" ++ 10 ∷ []) later u e) w)

pub listing_part : {start now : Option (List ℕ)} {waiting : List ℕ} (cells later : List ℕ) (new : Option (List ℕ)) →
    IsUnderway start now waiting (flat_map token_line cells) → later ≡ waiting ++ (codes "end" ++ 10 ∷ []) →
    AppendsPart now new later → AppendsPart start new (listing cells)
listing_part {start} cells later new u e p = subst (AppendsPart start new) (sym (listing_is cells))
    (underway_part new (underway_more (codes "end" ++ 10 ∷ []) later u e) p)

-- a part of the lines of the first cells was written
pub part_listed : {start new : Option (List ℕ)} {text : List ℕ} (all front back : List ℕ) →
    AppendsPart start new text → text ≡ flat_map token_line front → front ++ back ≡ all
    → AppendsPart start new (listing all)
part_listed {start} {new} {text} all front back p lines split =
    let rest = flat_map token_line back ++ (codes "end" ++ 10 ∷ []) in
    let whole : listing all ≡ text ++ rest =
    ap listing (sym split) ∙ listing_is (front ++ back)
    ∙ ap (λ s. s ++ (codes "end" ++ 10 ∷ [])) (flat_map-append token_line front back)
    ∙ append_assoc (flat_map token_line front) (flat_map token_line back) (codes "end" ++ 10 ∷ [])
    ∙ ap (λ s. s ++ rest) (sym lines) in
    record {
      part = p.part;
      rest = p.rest ++ rest;
      bytes_are = whole ∙ ap (λ s. s ++ rest) p.bytes_are ∙ append_assoc p.part p.rest rest;
      lacking = omega (arith, length-append p.rest rest, p.lacking);
      written = p.written;
    }

-- the digits of a cell were written after the first bytes, and the end of the line after its token
pub line_written : (a n cell : ℕ) (old digits new : List ℕ) → a ≤ length old → a + n < length new →
    n ≤ length digits → take (a + length digits) new ≡ take a old ++ digits → take n digits ≡ token_of cell →
    take (a + n + 1) (set new (a + n) 10) ≡ take a old ++ token_line cell
line_written a n cell old digits new fits room most whole token =
    let len : length (take a old) ≡ a = length-take-le a old fits in
    let cut : take (length (take a old) + n) (take a old ++ digits) ≡ take a old ++ take n digits =
    take-append-add (take a old) digits n in
    let front : take (a + n) new ≡ take a old ++ token_of cell =
    sym (take-take (a + n) (a + length digits) new (omega arith)) ∙ ap (λ t. take (a + n) t) whole
    ∙ ap (λ m. take (m + n) (take a old ++ digits)) (sym len) ∙ cut ∙ ap (λ t. take a old ++ t) token in
    take_more_set new (a + n) 10 (omega arith) ∙ ap (λ t. t ++ 10 ∷ []) front
    ∙ append_assoc (take a old) (token_of cell) (10 ∷ [])
