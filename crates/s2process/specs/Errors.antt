-- What standard error gets.
use Rattle.std.specs.Prelude.{◌≡◌, ◌<◌, ℕ, ◌⊎◌, List, [], ◌∷◌, ◌++◌, length, codes, flat_map, Bool, true, false, cond}
use Rattle.std.specs.Prelude.{Result, Ok, Err}
use Rattle.s2script.specs.FileName.{is_name}
use Rattle.s2script.specs.Paths.{misnamed_text}
use Rattle.s2calc.specs.declared.fault.RunFault.{RunFault}
use Rattle.s2calc.specs.declared.fault.RunFault.TheVariants.{Input, Output, Memory}
use Rattle.s2calc.specs.Calls.{Call}
use Rattle.s2process.specs.Ends.{NoneFailed, LastFailed}

-- the line that says what failed
abbrev pub fault_line : RunFault → List ℕ
fault_line Input = codes "s2calc: input" ++ 10 ∷ []
fault_line Output = codes "s2calc: output" ++ 10 ∷ []
fault_line Memory = codes "s2calc: memory" ++ 10 ∷ []

-- the line that says what failed, if anything did
abbrev pub fault_line_of : {A : Type 0} → Result A RunFault → List ℕ
fault_line_of (Ok answer) = []
fault_line_of (Err fault) = fault_line fault

-- what is said of words that make no sense, of which this is what is wrong with them
abbrev pub usage_text : List ℕ → List ℕ
usage_text wrong = codes "s2calc: usage" ++ 10 ∷ wrong

-- the line on a word that names a file: what is wrong with it, if it is no name
abbrev pub misnamed_line : List ℕ → List ℕ
misnamed_line word = cond (is_name word) [] (codes "s2calc: " ++ misnamed_text word ++ 10 ∷ [])

-- the lines on words that name files
abbrev pub misnamed_lines : List (List ℕ) → List ℕ
misnamed_lines words = flat_map misnamed_line words

-- Of a text a writer took these bytes, by calls that ended so: it took all of it, and no call failed; or it took a
-- beginning of it, and then a call failed, the last one.
abbrev pub Tells : List ℕ → List ℕ → List Call → Type 0
Tells text bytes calls = ((bytes ≡ text) × NoneFailed calls)
    ⊎ ((rest : List ℕ) × (text ≡ bytes ++ rest) × (0 < length rest) × LastFailed calls)

-- what standard error gets after an answer, of which this is said if it is a refusal: nothing after another one; this,
-- or nothing if there is no memory for it; or what failed
abbrev pub IsSaidAfter : List ℕ → Result Bool RunFault → List ℕ → Type 0
IsSaidAfter said (Ok true) text = text ≡ []
IsSaidAfter said (Ok false) text = (text ≡ said) ⊎ (text ≡ [])
IsSaidAfter said (Err fault) text = text ≡ fault_line fault
