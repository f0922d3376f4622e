-- Word 0 of an element and its fields (RULES.md, "Element header"), and a flag as a number.
use Rattle.std.specs.Prelude.{ℕ, ◌/◌, ◌%◌, Bool, cond}

-- bits 0-5
abbrev pub level_of : ℕ → ℕ
level_of w = w % 64

-- bit 6
abbrev pub reserved_of : ℕ → ℕ
reserved_of w = w / 64 % 2

-- bit 7: component of a complex element
abbrev pub c_of : ℕ → ℕ
c_of w = w / 128 % 2

-- bits 8-14
abbrev pub type_of : ℕ → ℕ
type_of w = w / 256 % 128

-- bit 15
abbrev pub deleted_of : ℕ → ℕ
deleted_of w = w / 32768 % 2

-- a flag as a bit: true is 1
abbrev pub bit : Bool → ℕ
bit b = cond b 1 0
