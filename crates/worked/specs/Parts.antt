-- Worked parts through the definitions: two lines and a stay without symmetry, with small path numbers, minus zero, and
-- each refusal before those that come after it. Numerators by 01's sum (rule Composed net), reckoned elsewhere; f64 by their bits.
-- Assumes nothing.
use Rattle.std.specs.Prelude.{◌≡◌, refl, true, List, [], ◌∷◌, map, ℕ, ◌-◌, ◌≤◌, ℤ, pos, negsuc, length}
use Rattle.std.proofs.Common.{sym, arith}
use Rattle.std.specs.Float.{binary64}
use Rattle.std.specs.Float.Ieee.{eq, of_int, of_bits, to_bits}
use Rattle.whole.specs.Sum.{sum_over, sum_to}
use Rattle.whole.specs.Choose.{choose}
use Rattle.request.specs.units.Bounds.{beyond_travel, beyond_path}
use Rattle.request.specs.declared.Answer.{Answer}
use Rattle.request.specs.Head.{by_form, degree, longest, surface_count, numbers}
use Rattle.request.specs.Request.{Request}
use Rattle.request.specs.Cascade.{first, refused, decided}
use Rattle.request.specs.Refusal.{least, not_degree, not_surface, not_value, not_parameter, value_place, parameter_place, accepted}
use Rattle.net.specs.Net.{net_of, place_of, number_at, path_number}
use Rattle.net.specs.Blossom.{step, blossom}
use Rattle.net.specs.Composed.{over_choices, total, weight, arguments, numerator}
use Rattle.floats.specs.Float.{float, bits}
use Rattle.floats.specs.Path.{path_of}
use Rattle.floats.proofs.Numbers.{path_is}
use Rattle.part.specs.declared.Part.{Part}
use Rattle.part.specs.declared.Part.TheVariants.{Stay, Line}
use Rattle.part.specs.Part.{named, path_degree, head_of, request_of}
use Rattle.part.specs.Contract.{refusals, verdict, divided, bits_at, five}

-- a stay and a line, by the bits of their path numbers
unfoldable pub stay : ℕ → Part
stay u = Stay (of_bits binary64 u)

unfoldable pub line : ℕ → ℕ → Part
line u v = Line (of_bits binary64 u) (of_bits binary64 v)

pub record Worked : Type 0 where
  pub m : ℕ
  pub surface : List ℤ
  pub part : Part
  pub path : List ℤ
  pub answer : Answer
  pub bits : List ℕ

abbrev part_of : ℕ → List ℤ → List ℤ → Request
part_of m surface path = record { head = record { form = 1; first = m; second = 0; N = length path - 1 }; surface = surface; path = path }

unfoldable pub asked : Worked → Request
asked w = request_of w.m w.surface w.part

-- the request that the part is said to be
unfoldable pub said : Worked → Request
said w = part_of w.m w.surface w.path

-- a line from 0 to one half, which is no path number, is refused
unfoldable pub refusal : ℕ → List ℤ → ℕ → ℕ → Worked
refusal m surface number place = record {
  m = m;
  surface = surface;
  part = line 0 0x3fe0_0000_0000_0000;
  path = pos 0 ∷ pos 1025 ∷ [];
  answer = refused number place;
  bits = five (λ R. 0);
}

unfoldable pub worked : List Worked
worked =
    -- F 2, 3, −2, from 0 to 3: 2097152, 4200448 over 2, 2103242; two places unused
    record {
      m = 2;
      surface = pos 2 ∷ pos 3 ∷ negsuc 1 ∷ [];
      part = line 0 0x4008_0000_0000_0000;
      path = pos 0 ∷ pos 3 ∷ [];
      answer = record { number = 0; place = 0; count = 3 };
      bits = 0x4140_0000_0000_0000 ∷ 0x4140_0600_0000_0000 ∷ 0x4140_0be5_0000_0000 ∷ 0 ∷ 0 ∷ [];
    }
    -- F 7, −300, 4096, 11, −2, from 9 to 5: −1812925474007, −4055680300396 over 4, −839197163994 over 6, 3240341485620 over 4,
    -- 1836790411897
    ∷ record {
      m = 4;
      surface = pos 7 ∷ negsuc 299 ∷ pos 4096 ∷ pos 11 ∷ negsuc 1 ∷ [];
      part = line 0x4022_0000_0000_0000 0x4014_0000_0000_0000;
      path = pos 9 ∷ pos 5 ∷ [];
      answer = record { number = 0; place = 0; count = 5 };
      bits = 0xc27a_61ac_764d_7000 ∷ 0xc26d_824b_11ab_6000 ∷ 0xc240_4856_6027_8000 ∷ 0x4267_939b_39c1_a000 ∷ 0x427a_ba93_d727_9000 ∷ [];
    }
    -- F 5, −7, 0, 4000, a stay at 6: 5145176336
    ∷ record {
      m = 3;
      surface = pos 5 ∷ negsuc 6 ∷ pos 0 ∷ pos 4000 ∷ [];
      part = stay 0x4018_0000_0000_0000;
      path = pos 6 ∷ [];
      answer = record { number = 0; place = 0; count = 1 };
      bits = 0x41f3_2ad2_9100_0000 ∷ 0 ∷ 0 ∷ 0 ∷ 0 ∷ [];
    }
    -- F 0, −5, from minus zero, which counts as 0, to 1: plus zero, although no times −5 is minus zero; −5
    ∷ record {
      m = 1;
      surface = pos 0 ∷ negsuc 4 ∷ [];
      part = line 0x8000_0000_0000_0000 0x3ff0_0000_0000_0000;
      path = pos 0 ∷ pos 1 ∷ [];
      answer = record { number = 0; place = 0; count = 2 };
      bits = 0 ∷ 0xc014_0000_0000_0000 ∷ 0 ∷ 0 ∷ 0 ∷ [];
    }
    -- DEGREE before SURFACE, SURFACE before VALUE, VALUE with its place before PARAMETER, PARAMETER: 0, then one half
    ∷ refusal 5 [] 2 0
    ∷ refusal 2 (pos 4097 ∷ []) 3 0
    ∷ refusal 1 (pos 7 ∷ negsuc 4096 ∷ []) 6 1
    ∷ refusal 0 (pos 7 ∷ []) 7 1
    ∷ []

-- which path number an f64 is: the one that it equals
is-number : (u k : ℕ) → k ≤ 1024 → eq (float (pos k)) (of_bits binary64 u) ≡ true → path_of (of_bits binary64 u) ≡ k
is-number u k h e = sym (path_is (of_bits binary64 u) k h e)

-- one half equals none of the 1,025, which is looked at once for all
half-named : path_of (of_bits binary64 0x3fe0_0000_0000_0000) ≡ 1025
unfolding float path_of of_int of_bits eq least
half-named = refl

-- the parts are the requests that they are said to be
all_said : map asked worked ≡ map said worked
unfolding worked refusal asked said stay line request_of named path_degree head_of float of_int of_bits eq
all_said =
    let zero = is-number 0 0 (omega arith) refl in
    let minus-zero = is-number 0x8000_0000_0000_0000 0 (omega arith) refl in
    let one = is-number 0x3ff0_0000_0000_0000 1 (omega arith) refl in
    let three = is-number 0x4008_0000_0000_0000 3 (omega arith) refl in
    let five = is-number 0x4014_0000_0000_0000 5 (omega arith) refl in
    let six = is-number 0x4018_0000_0000_0000 6 (omega arith) refl in
    let nine = is-number 0x4022_0000_0000_0000 9 (omega arith) refl in
    λ t.
    part_of 2 (pos 2 ∷ pos 3 ∷ negsuc 1 ∷ []) (pos (zero t) ∷ pos (three t) ∷ [])
    ∷ part_of 4 (pos 7 ∷ negsuc 299 ∷ pos 4096 ∷ pos 11 ∷ negsuc 1 ∷ []) (pos (nine t) ∷ pos (five t) ∷ [])
    ∷ part_of 3 (pos 5 ∷ negsuc 6 ∷ pos 0 ∷ pos 4000 ∷ []) (pos (six t) ∷ [])
    ∷ part_of 1 (pos 0 ∷ negsuc 4 ∷ []) (pos (minus-zero t) ∷ pos (one t) ∷ [])
    ∷ part_of 5 [] (pos (zero t) ∷ pos (half-named t) ∷ [])
    ∷ part_of 2 (pos 4097 ∷ []) (pos (zero t) ∷ pos (half-named t) ∷ [])
    ∷ part_of 1 (pos 7 ∷ negsuc 4096 ∷ []) (pos (zero t) ∷ pos (half-named t) ∷ [])
    ∷ part_of 0 (pos 7 ∷ []) (pos (zero t) ∷ pos (half-named t) ∷ [])
    ∷ []

-- and these are answered so
pub as-worked : (map asked worked ≡ map said worked)
    × (map (λ w. verdict (said w)) worked ≡ map (λ w. w.answer) worked)
    × (map (λ w. five (bits_at (said w) w.answer.count)) worked ≡ map (λ w. w.bits) worked)
unfolding worked said refusal refusals verdict divided bits_at five float bits of_int of_bits to_bits eq
    first refused decided least not_degree not_surface not_value not_parameter value_place parameter_place accepted beyond_travel beyond_path by_form degree
    longest surface_count
    numbers net_of place_of number_at path_number step blossom over_choices total weight arguments numerator sum_over sum_to choose
as-worked = (all_said, refl, refl)
