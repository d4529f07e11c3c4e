-- Records worked through the definitions: P1 and P2 of 01 (rule Worked rides) as bytes, the two rides of our own that pin every
-- order of numbers (reckoned as in demands/specs/Rides.antt), an age at its bound, and each way to be refused at the door.
-- Assumes nothing.
use Rattle.std.specs.Prelude.{◌≡◌, refl, List, [], ◌∷◌, map, ℕ}
use Rattle.whole.specs.Sum.{sum_over, sum_to}
use Rattle.whole.specs.Choose.{choose}
use Rattle.whole.specs.Round.{nearest, on_side_of, half_up}
use Rattle.request.specs.units.Bounds.{beyond_travel, beyond_path, stale}
use Rattle.request.specs.Head.{by_form, degree, longest, surface_count, path_count, numbers}
use Rattle.request.specs.Cascade.{first, refused, decided}
use Rattle.request.specs.Refusal.{refusals, answer, accepted, least, not_kind, not_degree, not_surface, not_path, not_room}
use Rattle.request.specs.Refusal.{not_value, not_parameter, not_balance, value_place, parameter_place, balance_place, uneven, is_number}
use Rattle.net.specs.Net.{row_start, place_of, net_of, number_at as path_number_at, path_number}
use Rattle.net.specs.Blossom.{step, blossom}
use Rattle.net.specs.Composed.{over_choices, total, weight, arguments, numerator, denominator, point}
use Rattle.compose.specs.Afterwards.{list_below}
use Rattle.wire.specs.Words.{word_bytes, word_at, unsigned, signed, number_bytes, number_at}
use Rattle.wire.specs.Start.{length_field, kind_field, record_start, record_of}
use Rattle.replies.specs.Reply.{answer_bytes, reply_record}
use Rattle.judgement.specs.Record.{head_in, is_aged, start_in, former, missing_age, age_by, path_start, body_end, request_in}
use Rattle.judgement.specs.Judgement.{not_of_kind, not_frame, not_body, refusals_by, judged_by}
use Rattle.door.specs.Contract.{points_by, reply_by, reply_of}

pub record Exchange : Type 0 where
  pub request : List ℕ
  pub reply : List ℕ

-- a refusal's reply
unfoldable pub refusal_bytes : ℕ → ℕ → List ℕ
refusal_bytes number place = 8 ∷ 0 ∷ 0x01 ∷ 0x80 ∷ number ∷ place ∷ 0 ∷ 0 ∷ []

-- P1 of kind 0x0001
unfoldable pub ageless : List ℕ
ageless = 16 ∷ 0 ∷ 1 ∷ 0 ∷ 1 ∷ 1 ∷ 0 ∷ 1 ∷ 0 ∷ 0 ∷ 100 ∷ 0 ∷ 0 ∷ 0 ∷ 0 ∷ 4 ∷ []

unfoldable pub exchanges : List Exchange
exchanges =
    -- P1 with age 0: F 0, 100; path 0, 1024; points 0, 100
    record {
      request = 18 ∷ 0 ∷ 2 ∷ 0 ∷ 1 ∷ 1 ∷ 0 ∷ 1 ∷ 0 ∷ 0 ∷ 0 ∷ 0 ∷ 100 ∷ 0 ∷ 0 ∷ 0 ∷ 0 ∷ 4 ∷ [];
      reply = 12 ∷ 0 ∷ 0x01 ∷ 0x80 ∷ 0 ∷ 0 ∷ 2 ∷ 0 ∷ 0 ∷ 0 ∷ 100 ∷ 0 ∷ [];
    }
    -- STALE: P1 without an age, with numbers beyond their bounds, and with a body one byte too long
    ∷ record { request = ageless; reply = refusal_bytes 10 0 }
    ∷ record {
      request = 14 ∷ 0 ∷ 1 ∷ 0 ∷ 1 ∷ 1 ∷ 0 ∷ 0 ∷ 0 ∷ 0 ∷ 1 ∷ 16 ∷ 1 ∷ 4 ∷ [];
      reply = refusal_bytes 10 0;
    }
    ∷ record { request = 13 ∷ 0 ∷ 1 ∷ 0 ∷ 1 ∷ 0 ∷ 0 ∷ 0 ∷ 7 ∷ 0 ∷ 0 ∷ 0 ∷ 0 ∷ []; reply = refusal_bytes 10 0 }
    -- P2, aged 17: F 2, 3, −2; path 0, 1024; points 2, 3, −2
    ∷ record {
      request = 20 ∷ 0 ∷ 2 ∷ 0 ∷ 1 ∷ 2 ∷ 0 ∷ 1 ∷ 17 ∷ 0 ∷ 2 ∷ 0 ∷ 3 ∷ 0 ∷ 0xfe ∷ 0xff ∷ 0 ∷ 0 ∷ 0 ∷ 4 ∷ [];
      reply = 14 ∷ 0 ∷ 0x01 ∷ 0x80 ∷ 0 ∷ 0 ∷ 3 ∷ 0 ∷ 2 ∷ 0 ∷ 3 ∷ 0 ∷ 0xfe ∷ 0xff ∷ [];
    }
    -- our own ride of form 2, degrees (1, 2), aged 249: F 3, −40, 700, 11, 2000, −5; path (128, 896), (1000, 300)
    ∷ record {
      request =
          30 ∷ 0 ∷ 2 ∷ 0 ∷ 2 ∷ 1 ∷ 2 ∷ 1 ∷ 249 ∷ 0 ∷ 3 ∷ 0 ∷ 216 ∷ 255 ∷ 188 ∷ 2 ∷ 11 ∷ 0 ∷ 208 ∷ 7 ∷ 251 ∷ 255
          ∷ 128 ∷ 0 ∷ 128 ∷ 3 ∷ 232 ∷ 3 ∷ 44 ∷ 1 ∷ [];
      reply = 16 ∷ 0 ∷ 0x01 ∷ 0x80 ∷ 0 ∷ 0 ∷ 4 ∷ 0 ∷ 4 ∷ 2 ∷ 88 ∷ 1 ∷ 135 ∷ 3 ∷ 47 ∷ 3 ∷ [];
    }
    -- and of form 3, degree 2, aged 250: F 5, −60, 300, 17, 2000, −9; path (700, 200, 124), (50, 374, 600), (300, 24, 700)
    ∷ record {
      request =
          40 ∷ 0 ∷ 2 ∷ 0 ∷ 3 ∷ 2 ∷ 0 ∷ 2 ∷ 250 ∷ 0 ∷ 5 ∷ 0 ∷ 196 ∷ 255 ∷ 44 ∷ 1 ∷ 17 ∷ 0 ∷ 208 ∷ 7 ∷ 247 ∷ 255
          ∷ 188 ∷ 2 ∷ 200 ∷ 0 ∷ 124 ∷ 0 ∷ 50 ∷ 0 ∷ 118 ∷ 1 ∷ 88 ∷ 2 ∷ 44 ∷ 1 ∷ 24 ∷ 0 ∷ 188 ∷ 2 ∷ [];
      reply = 18 ∷ 0 ∷ 0x01 ∷ 0x80 ∷ 0 ∷ 0 ∷ 5 ∷ 0 ∷ 29 ∷ 2 ∷ 25 ∷ 2 ∷ 108 ∷ 0 ∷ 208 ∷ 0 ∷ 34 ∷ 0 ∷ [];
    }
    -- FRAME: seven bytes
    ∷ record { request = 7 ∷ 0 ∷ 1 ∷ 0 ∷ 9 ∷ 9 ∷ 9 ∷ []; reply = refusal_bytes 9 0 }
    -- FRAME: a length that is not the slice's, before the form
    ∷ record { request = 0 ∷ 8 ∷ 1 ∷ 0 ∷ 9 ∷ 9 ∷ 9 ∷ 9 ∷ []; reply = refusal_bytes 9 0 }
    -- FRAME: another kind, by its high byte
    ∷ record { request = 8 ∷ 0 ∷ 1 ∷ 1 ∷ 9 ∷ 9 ∷ 9 ∷ 9 ∷ []; reply = refusal_bytes 9 0 }
    -- KIND before DEGREE, and both before a missing age and the body's length
    ∷ record { request = 8 ∷ 0 ∷ 1 ∷ 0 ∷ 4 ∷ 9 ∷ 9 ∷ 9 ∷ []; reply = refusal_bytes 1 0 }
    ∷ record { request = 8 ∷ 0 ∷ 1 ∷ 0 ∷ 1 ∷ 5 ∷ 0 ∷ 0 ∷ []; reply = refusal_bytes 2 0 }
    -- FRAME: a body one byte too long
    ∷ record { request = 15 ∷ 0 ∷ 2 ∷ 0 ∷ 1 ∷ 0 ∷ 0 ∷ 0 ∷ 0 ∷ 0 ∷ 7 ∷ 0 ∷ 0 ∷ 0 ∷ 0 ∷ []; reply = refusal_bytes 9 0 }
    -- VALUE: 4097 at index 1, also where a path number is 1025
    ∷ record {
      request = 16 ∷ 0 ∷ 2 ∷ 0 ∷ 1 ∷ 1 ∷ 0 ∷ 0 ∷ 0 ∷ 0 ∷ 0 ∷ 0 ∷ 1 ∷ 16 ∷ 1 ∷ 4 ∷ [];
      reply = refusal_bytes 6 1;
    }
    -- PARAMETER: −1
    ∷ record { request = 14 ∷ 0 ∷ 2 ∷ 0 ∷ 1 ∷ 0 ∷ 0 ∷ 0 ∷ 0 ∷ 0 ∷ 7 ∷ 0 ∷ 0xff ∷ 0xff ∷ []; reply = refusal_bytes 7 0 }
    -- BALANCE: (512, 256, 255)
    ∷ record {
      request = 18 ∷ 0 ∷ 2 ∷ 0 ∷ 3 ∷ 0 ∷ 0 ∷ 0 ∷ 0 ∷ 0 ∷ 7 ∷ 0 ∷ 0 ∷ 2 ∷ 0 ∷ 1 ∷ 255 ∷ 0 ∷ [];
      reply = refusal_bytes 8 0;
    }
    -- kind 0x0002, age 250 in two bytes after N: the value 7 over a path of 0
    ∷ record { request = 14 ∷ 0 ∷ 2 ∷ 0 ∷ 1 ∷ 0 ∷ 0 ∷ 0 ∷ 250 ∷ 0 ∷ 7 ∷ 0 ∷ 0 ∷ 0 ∷ []; reply = 10 ∷ 0 ∷ 0x01 ∷ 0x80 ∷ 0 ∷ 0 ∷ 1 ∷ 0 ∷ 7 ∷ 0 ∷ [] }
    -- STALE: 251, and 256 by its high byte; before the body's length
    ∷ record { request = 14 ∷ 0 ∷ 2 ∷ 0 ∷ 1 ∷ 0 ∷ 0 ∷ 0 ∷ 251 ∷ 0 ∷ 7 ∷ 0 ∷ 0 ∷ 0 ∷ []; reply = refusal_bytes 10 0 }
    ∷ record { request = 10 ∷ 0 ∷ 2 ∷ 0 ∷ 1 ∷ 0 ∷ 0 ∷ 0 ∷ 0 ∷ 1 ∷ []; reply = refusal_bytes 10 0 }
    -- DEGREE before STALE; FRAME: a body that is missing; FRAME: nine bytes, before the form
    ∷ record { request = 10 ∷ 0 ∷ 2 ∷ 0 ∷ 1 ∷ 5 ∷ 0 ∷ 0 ∷ 0 ∷ 1 ∷ []; reply = refusal_bytes 2 0 }
    ∷ record { request = 10 ∷ 0 ∷ 2 ∷ 0 ∷ 1 ∷ 0 ∷ 0 ∷ 0 ∷ 250 ∷ 0 ∷ []; reply = refusal_bytes 9 0 }
    ∷ record { request = 9 ∷ 0 ∷ 2 ∷ 0 ∷ 9 ∷ 9 ∷ 9 ∷ 9 ∷ 9 ∷ []; reply = refusal_bytes 9 0 }
    ∷ []

pub as-stated : map (λ (e : Exchange). reply_of e.request) exchanges ≡ map (λ (e : Exchange). e.reply) exchanges
unfolding refusal_bytes ageless exchanges word_bytes word_at unsigned signed number_bytes number_at length_field kind_field record_start
    record_of head_in is_aged start_in age_by missing_age path_start body_end request_in answer_bytes reply_record not_of_kind not_frame not_body
    refusals_by judged_by points_by reply_by list_below answer refusals first decided refused accepted least not_kind
    not_degree not_surface not_path not_room not_value not_parameter not_balance value_place parameter_place balance_place
    beyond_travel beyond_path stale uneven is_number by_form degree longest surface_count path_count numbers row_start place_of
    net_of path_number_at path_number step blossom over_choices total weight arguments numerator denominator point nearest
    on_side_of half_up sum_to sum_over choose
as-stated = refl

-- and by the former reading, under which it counted as age 0
pub formerly : reply_by former ageless ≡ 12 ∷ 0 ∷ 0x01 ∷ 0x80 ∷ 0 ∷ 0 ∷ 2 ∷ 0 ∷ 0 ∷ 0 ∷ 100 ∷ 0 ∷ []
unfolding ageless word_bytes word_at unsigned signed number_bytes number_at length_field kind_field record_start
    record_of head_in is_aged start_in age_by missing_age path_start body_end request_in answer_bytes reply_record not_of_kind not_frame not_body
    refusals_by judged_by points_by reply_by list_below answer refusals first decided refused accepted least not_kind
    not_degree not_surface not_path not_room not_value not_parameter not_balance value_place parameter_place balance_place
    beyond_travel beyond_path stale uneven is_number by_form degree longest surface_count path_count numbers row_start place_of
    net_of path_number_at path_number step blossom over_choices total weight arguments numerator denominator point nearest
    on_side_of half_up sum_to sum_over choose
formerly = refl
