-- What the contract says without room for a reply, and with it. Assumes nothing.
use mathlib.Core.Path.{◌≡◌, refl, sym, ◌∙◌}
use mathlib.Core.List.{List, [], ◌∷◌, ◌++◌}
use Prim.Native.Nat.{ℕ, ◌-◌, ◌≤◌, ◌<◌}
use lib.IntN.{ℤ}
use lib.ListN.{length, replicate}
use borrow.Author.Tests.{lt-ltb, le-ltb}
use Rattle.request.specs.declared.Answer.{Answer}
use Rattle.request.specs.Cascade.{first, refused, decided}
use Rattle.compose.specs.Afterwards.{list_below}
use Rattle.wire.specs.Words.{word_bytes, word_at, number_bytes}
use Rattle.wire.specs.Start.{length_field, record_start, record_of}
use Rattle.replies.specs.Reply.{answer_bytes, reply_record, room, over}
use Rattle.replies.specs.Parts.{Written}
use Rattle.judgement.specs.Record.{head_in, is_aged, start_in, missing_age, age_by, path_start, body_end, request_in}
use Rattle.judgement.specs.Judgement.{not_frame, refusals_by, judged_by, judged}
use Rattle.door.specs.Contract.{points_by, points_of, reply_by, reply_of, count_answered, reply_after, Answered}

-- "Under [58] bytes of reply room nothing is written and 0 is answered", also where this reply, FRAME's of eight bytes, would
-- fit; with just that room it is written, and "the slice beyond the reply stays"
pub short-of-room : (count_answered [] (replicate (room - 1) 7) ≡ 0) × (reply_after [] (replicate (room - 1) 7) ≡ replicate (room - 1) 7)
unfolding word_bytes word_at number_bytes length_field record_start record_of head_in is_aged start_in age_by missing_age path_start body_end request_in
    answer_bytes reply_record not_frame refusals_by judged_by points_by reply_by list_below first decided refused over count_answered
    reply_after
short-of-room = (refl, refl)

-- FRAME's reply
abbrev frame : List ℕ
frame = 8 ∷ 0 ∷ 0x01 ∷ 0x80 ∷ 9 ∷ 0 ∷ 0 ∷ 0 ∷ []

pub just-room : (count_answered [] (replicate room 7) ≡ 8) × (reply_after [] (replicate room 7) ≡ frame ++ replicate (room - 8) 7)
unfolding word_bytes word_at number_bytes length_field record_start record_of head_in is_aged start_in age_by missing_age path_start body_end
    request_in answer_bytes reply_record not_frame refusals_by judged_by points_by reply_by list_below first decided refused over
    count_answered reply_after
just-room = (refl, refl)

module _ (request reply : List ℕ) where
  pub no_room : length reply < room → Answered request reply 0 reply
  unfolding count_answered reply_after
  no_room m = record { counted = rw (lt-ltb (length reply) room m); written = rw (lt-ltb (length reply) room m) }

  pub count_is : room ≤ length reply → count_answered request reply ≡ length (reply_of request)
  unfolding count_answered
  count_is m = rw (le-ltb (length reply) room m)

  pub reply-is : room ≤ length reply → reply_after request reply ≡ over (reply_of request) reply
  unfolding reply_after
  reply-is m = rw (le-ltb (length reply) room m)

  pub sent : room ≤ length reply → (a : Answer) (points : List ℤ) (n : ℕ) (reply' : List ℕ) → a ≡ judged request → points ≡ points_of request
      → Written a points reply n reply' → Answered request reply n reply'
  unfolding reply_by
  sent m a points n reply' e f w = record {
    counted = w.counted ∙ rw (e, f) (sym (count_is m));
    written = w.written ∙ rw (e, f) (sym (reply-is m));
  }
