-- Each answer about a name as numbers, and as the bytes of a text. The library's own definitions decide it.
use Rattle.std.specs.Prelude.{ℕ, [], ◌∷◌, ◌++◌, Err, Ok, Result}
use Rattle.names.specs.declared.Unpacked.{Unpacked}
use Rattle.answers.specs.Answers.{Reply, done, refuse}
use Rattle.names.specs.declared.Name.{Name}
use Rattle.names.specs.declared.NoText.{NoText}
use Rattle.refusals.specs.declared.Refusal.{Refusal}

-- the two words
abbrev pub pack_reply : Result Name Refusal → Reply ℕ
pack_reply (Ok name) = done (name.first ∷ name.second ∷ [])
pack_reply (Err refusal) = refuse refusal.number refusal.place

-- the letters and a 0 behind them, so that the text ends at its first 0
abbrev pub unpack_reply : Result Unpacked NoText → Reply ℕ
unpack_reply (Ok text) = done (text.letters ++ (0 ∷ []))
unpack_reply (Err none) = refuse none.refusal.number none.refusal.place
