pub mod CurveReplies
