-- What only private contracts need, beside Reading.antt, which has what public contracts need.
use Rattle.std.specs.Prelude.{ℕ, List, MatchResult}
use Rattle.std.specs.declared.result.Result.{Result}
use Rattle.s2shelf.specs.OpenedFile.{Claim}
use Rattle.s2edit.specs.Content.{Content, content_of, IsContent}
use Rattle.s2edit.specs.declared.content.Session.{Session}
use Rattle.s2session.specs.Reading.{WasLeft}
use Rattle.s2session.specs.Working.Taking.{Refuses}
use Rattle.s2session.specs.declared.fault.ReadFault.{ReadFault}

-- the session is one that a file may hold, and the bytes that were left are of it; `Form` says that they are of none
abbrev pub Judges : (List ℕ → Content → Type 0) → (Claim → List ℕ → Type 0) → (Claim → List ℕ → Type 0) →
    Result Session ReadFault → Type 0
Judges IsOf old new answer = MatchResult answer
    (λ session. IsContent (content_of session) × WasLeft old new (λ bytes. IsOf bytes (content_of session)))
    (λ fault. WasLeft old new (λ bytes. Refuses fault ((s : Content) → IsOf bytes s → ⊥)))
