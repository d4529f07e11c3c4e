-- "Port and starboard must mirror" (rule Port and starboard; 02, ticket 2). Assumes nothing.
use Rattle.std.specs.Prelude.{map, neg_ℤ}
use Rattle.request.specs.Request.{Request}

-- "all control values negated": the same head, the same path
unfoldable pub mirrored : Request → Request
mirrored rq = record { head = rq.head; surface = map neg_ℤ rq.surface; path = rq.path }
