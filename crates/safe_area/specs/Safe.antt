-- `safe_content` and `safe_edges` of input.rs, with refusal 6.
use Rattle.std.specs.Prelude.{◌≡◌, Bool, true, false, ◌&&◌, cond, List, ℕ, ℤ, pos, negsuc, ◌-ℤ◌, get_or, replicate, Float}
use Rattle.std.specs.Int.{int_max}
use Rattle.std.specs.Int.Signed.{lt_z, le_z}
use Rattle.std.specs.Ordering.{int_eq}
use Rattle.std.specs.Cmp.Lexicographic.{pointwise}
use Rattle.std.specs.Float.{binary32}
use Rattle.std.specs.Float.Ieee.{of_int}
use Rattle.prelude.specs.Answer.{Answer, accepted, must}
use Rattle.std.specs.List.{list_all}
use Rattle.geometry.specs.Rect.{new_of}
use Rattle.geometry.specs.declared.Rect.{Rect}
use Rattle.safe_area.specs.declared.Edges.{Edges}

-- what stands at an index of a list
abbrev pub entry : List ℤ → ℕ → ℤ
entry xs i = get_or xs i (pos 0)

abbrev pub to_f32 : ℤ → Float
to_f32 n = of_int binary32 n

unfoldable pub clamp_z : ℤ → ℤ → ℤ → ℤ
clamp_z x low high = cond (lt_z x low) low (cond (lt_z high x) high x)

-- Document 01's limits of an integer: -8,192 to 8,192.
unfoldable pub within_limits_of : ℤ → Bool
within_limits_of n = le_z (negsuc 8191) n && le_z n (pos 8192)

abbrev pub OnScale : ℤ → Type 0
OnScale n = within_limits_of n ≡ true

abbrev pub on_scale_of : List ℤ → Bool
on_scale_of ns = list_all within_limits_of ns

unfoldable pub all_on_scale_of : List ℤ → List ℤ → List ℤ → Bool
all_on_scale_of a b c = on_scale_of a && (on_scale_of b && on_scale_of c)

-- The edges count only where they were measured at the size itself.
unfoldable pub current_edges_of : List ℤ → List ℤ → List ℤ → List ℤ
current_edges_of size inset edges = cond (pointwise int_eq size inset) edges (replicate 4 (pos 0))

-- along one axis, where the free part begins, and its extent
abbrev pub start_of : ℤ → ℤ → ℤ
start_of whole near = clamp_z near (pos 0) (int_max whole (pos 0))

abbrev pub extent_of : ℤ → ℤ → ℤ → ℤ
extent_of whole near far = int_max (whole -ℤ start_of whole near -ℤ int_max far (pos 0)) (pos 1)

unfoldable pub content_of : List ℤ → List ℤ → List ℤ → Rect
content_of size inset edges =
    let w = entry size 0 in
    let h = entry size 1 in
    let current = current_edges_of size inset edges in
    let left = entry current 0 in
    let top = entry current 1 in
    let right = entry current 2 in
    let bottom = entry current 3 in
    new_of
    (to_f32 (start_of w left))
    (to_f32 (start_of h top))
    (to_f32 (extent_of w left right))
    (to_f32 (extent_of h top bottom))

unfoldable pub safe_content_of : List ℤ → List ℤ → List ℤ → Answer Rect
safe_content_of size inset edges =
    must (all_on_scale_of size inset edges) 6 (accepted (content_of size inset edges))

-- The margin at an edge. A camera that is a local obstacle has none.
unfoldable pub merged_edge_of : ℤ → ℤ → ℤ → Bool → ℤ
merged_edge_of decoration navigation camera local = int_max (int_max decoration navigation) (cond local (pos 0) camera)

-- A side camera may be a local obstacle; its margins above and below still apply.
unfoldable pub merged_of : List ℤ → List ℤ → List ℤ → Bool → Edges
merged_of decoration navigation camera local =
    record {
      left = merged_edge_of (entry decoration 0) (entry navigation 0) (entry camera 0) local;
      top = merged_edge_of (entry decoration 1) (entry navigation 1) (entry camera 1) false;
      right = merged_edge_of (entry decoration 2) (entry navigation 2) (entry camera 2) local;
      bottom = merged_edge_of (entry decoration 3) (entry navigation 3) (entry camera 3) false;
    }

unfoldable pub safe_edges_of : List ℤ → List ℤ → List ℤ → Bool → Answer Edges
safe_edges_of decoration navigation camera local =
    must (all_on_scale_of decoration navigation camera) 6 (accepted (merged_of decoration navigation camera local))
