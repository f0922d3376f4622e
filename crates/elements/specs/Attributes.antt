-- The attribute part of an element (RULES.md, "Attribute linkages").
use Rattle.std.specs.Prelude.{ℕ, ◌+◌, List, Bool, not, ◌&&◌, ◌||◌, leb}
use Rattle.linkages.specs.Linkages.{linkages_fill}
use Rattle.headers.specs.Header.{type_at, size_at, sizing_at, attributes_at, attribute_part_at}
use Rattle.kinds.specs.Kinds.{is_linked, fixed_part}

-- the element has an attribute part: its type may have one, and A is set
abbrev pub has_attributes : List ℕ → ℕ → Bool
has_attributes ws at = is_linked (type_at ws at) && attributes_at ws at

-- the attribute part begins not before the fixed part's end nor after the element's end, and linkages fill it
unfoldable pub attributes_ok : ℕ → List ℕ → ℕ → Bool
attributes_ok dim ws at =
    leb (fixed_part dim (type_at ws at) (sizing_at dim ws at)) (attribute_part_at ws at)
    && (leb (attribute_part_at ws at) (size_at ws at)
    && linkages_fill ws (at + attribute_part_at ws at) (at + size_at ws at))

-- 11 unless the attribute part of an element that has one is right
unfoldable pub linkages_ok : ℕ → List ℕ → ℕ → Bool
linkages_ok dim ws at = not (has_attributes ws at) || attributes_ok dim ws at
