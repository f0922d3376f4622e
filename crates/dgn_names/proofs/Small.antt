-- Every refusal of packing and unpacking is small: its number and its detail can be taken apart again.
use Prim.Native.Nat.{ℕ}
use mathlib.Core.Path.{◌≡◌, refl}
use mathlib.Core.List.{List}
use native.Mathlib.Omega.{arith}
use Rattle.names.specs.Names.{packed, unpacked}
use Rattle.names.specs.declared.Unpacked.{Unpacked}
use Rattle.names.specs.declared.NoText.{NoText}
use Rattle.names.specs.Name.{no_text_with}
use Rattle.names.proofs.Refusals.{pack_refused, unpack_refused}
use Rattle.answers.specs.Answers.{Small, SmallReply}
use Rattle.dgn_names.specs.PackUnpack.{pack_reply, unpack_reply}
use Rattle.std.specs.Prelude.{Err, Ok, Result}
use Rattle.names.specs.declared.Name.{Name}
use Rattle.refusals.specs.Refusals.{refused_with}
use Rattle.refusals.specs.declared.Refusal.{Refusal}

-- 12 at 0
twelve : (n p : ℕ) → (n ≡ 12) × (p ≡ 0) → Small n p
twelve n p h = (omega arith, omega arith, omega arith)

pub pack_refused_small : (t : List ℕ) (n p : ℕ) → packed t ≡ refused_with n p → Small n p
pack_refused_small t n p q = twelve n p (pack_refused t n p q)

pub unpack_refused_small : (a b n p : ℕ) (letters : List ℕ) → unpacked a b ≡ no_text_with n p letters → Small n p
unpack_refused_small a b n p letters q =
    let r = unpack_refused a b n p letters q in
    twelve n p (r.0, r.1)

pub pack_small : (t : List ℕ) → SmallReply (pack_reply (packed t))
pack_small t = go (packed t) refl
  where
    go : (r : Result Name Refusal) → packed t ≡ r → SmallReply (pack_reply r)
    go (Ok name) q = tt
    go (Err refusal) q = pack_refused_small t refusal.number refusal.place q

pub unpack_small : (a b : ℕ) → SmallReply (unpack_reply (unpacked a b))
unpack_small a b = go (unpacked a b) refl
  where
    go : (r : Result Unpacked NoText) → unpacked a b ≡ r → SmallReply (unpack_reply r)
    go (Ok text) q = tt
    go (Err none) q = unpack_refused_small a b none.refusal.number none.refusal.place none.letters q
