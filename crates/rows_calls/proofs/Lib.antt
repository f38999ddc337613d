pub mod ExpressionsFew
