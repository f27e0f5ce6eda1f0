-- What septets come back as from UCS2: each replaced escape as the character shown.
use Rattle.std.specs.Prelude.{ℕ, ◌≡◌, refl, List, [], ◌∷◌, ◌++◌, eqb, if◌then◌else◌}
use Rattle.std.proofs.Math.Option.{Option, none, some}
use Rattle.gsm7.specs.declared.decode.Extension.{Extension}
use Rattle.gsm7.specs.Alphabet.{row_with, extension}

-- what an escape and the code after it come back as: both, where the extension table has the code; else the code alone, or a space where that is an escape too
abbrev pub standing : ℕ → Option Extension → List ℕ
standing t none = (if eqb t 0x1b then 0x20 else t) ∷ []
standing t (some e) = 0x1b ∷ t ∷ []

-- every septet, with each replaced escape as the character shown; an escape that is the last one comes back as a space
unfoldable mutual
  pub as_shown : List ℕ → List ℕ
  as_shown [] = []
  as_shown (s ∷ ss) =
      let escape = escape_as_shown ss in
      let plain = s ∷ as_shown ss in
      if eqb s 0x1b then escape else plain

  pub escape_as_shown : List ℕ → List ℕ
  escape_as_shown [] = 0x20 ∷ []
  escape_as_shown (t ∷ ss) = standing t (row_with (λ (e : Extension). e.code) t extension) ++ as_shown ss

-- 1B 41, 1B 1B and a last 1B come back as A, a space and a space; 1B 65 as it is
known_shown : (as_shown (0x1b ∷ 0x41 ∷ 0x1b ∷ 0x1b ∷ 0x1b ∷ []) ≡ 0x41 ∷ 0x20 ∷ 0x20 ∷ []) × (as_shown (0x41 ∷ 0x1b ∷ 0x65 ∷ []) ≡ 0x41 ∷ 0x1b ∷ 0x65 ∷ [])
unfolding as_shown escape_as_shown row_with
known_shown = (refl, refl)
